-- `taken::all_sized` decides. Assumes nothing.
use Rattle.std.proofs.Common.{sym, ◌∙◌, ◌*◌, ◌≤◌, length, arith}
use Rattle.numbers.proofs.Lists.{true≢false}
use Rattle.point_day.specs.Limits.{KINDS}
use Rattle.taken.proofs.Sizes.{all_sized, balances_limited, revisions_limited}
use Rattle.taken.proofs.all_sized.Goals as goal

pub returns-then-all_limited : goal.returns-then-all_limited
returns-then-all_limited c =
    let a = c.args.amounts.now in
    let b : KINDS * c.args.n ≤ length a.balance.now = omega (arith, a.lengths.balance, c.requires) in
    let r : c.args.n ≤ length a.revision.now = omega (arith, a.lengths.revision, c.requires) in
    record {
      yes = λ e. all_sized c.args.n _ _ b r (sym c.all_limited.ensures ∙ c.if-all_limited.true) (sym c.all_limited-then-all_limited.ensures ∙ e);
      no = λ e h. true≢false (sym (revisions_limited c.args.n _ _ b r h) ∙ sym c.all_limited-then-all_limited.ensures ∙ e);
    }

pub returns-else-all_limited : goal.returns-else-all_limited
returns-else-all_limited c =
    let a = c.args.amounts.now in
    let b : KINDS * c.args.n ≤ length a.balance.now = omega (arith, a.lengths.balance, c.requires) in
    let r : c.args.n ≤ length a.revision.now = omega (arith, a.lengths.revision, c.requires) in
    record {
      yes = λ e. true≢false (sym e ∙ c.if-all_limited.false);
      no = λ e h. true≢false (sym (balances_limited c.args.n _ _ b r h) ∙ sym c.all_limited.ensures ∙ e);
    }
