-- `taken::head_right` meets its contract: what holds of the numbers past the last user, counted from there, holds of their slots. Assumes nothing.
use Rattle.std.proofs.Common.{rules}
use Rattle.numbers.proofs.Places.{zero_from}
use Rattle.taken.proofs.head_right.Goals as goal

pub returns-then-numbers_right : goal.returns-then-numbers_right
returns-then-numbers_right c = record {
  yes = λ e. record { few = search rules; past = zero_from c.args.n c.args.users.now (search rules); named = search rules; apart = search rules; measurement = search rules };
  no = λ e h. search rules;
}
