-- `taken::user_numbers::no_numbers` meets its contract: the bits of every number passed so far are gathered. Assumes nothing.
use mathlib.Core.Path.{◌≡◌}
use native.Mathlib.Omega.{arith}
use lib.ListN.{get_or}
use borrow.Author.Count.{below_more}
use Rattle.numbers.proofs.Bits.{gather}
use Rattle.taken.proofs.user_numbers.no_numbers.Goals as goal

pub loop-user-preserved : goal.loop-user-preserved
loop-user-preserved c =
    let us = c.args.users.now in
    let i = c.loop-user.user-index in
    gather (get_or us i 0) c.loop-user.invariant (record { each = λ l. omega arith; back = λ e. omega arith })
    (below_more (λ k. get_or us k 0 ≡ 0) i)
    (λ r. (λ k l. r k (omega arith), r i (omega arith)))
