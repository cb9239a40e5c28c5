-- `taken::add_balances` meets its contract: a column that is filled user by user, and the sum so far. Assumes nothing.
use mathlib.Core.Path.{refl}
use native.Mathlib.Omega.{arith}
use lib.IntN.{pos}
use Rattle.numbers.specs.Sums.{sumZ}
use Rattle.numbers.proofs.Filled.{fill_none, fill_next, fill_step}
use Rattle.taken.proofs.Parts.{added_fits, added_back, added_all, added_sum_fits, added_sum_kept}
use Rattle.taken.proofs.add_balances.Goals as goal

pub loop-s-init : goal.loop-s-init
loop-s-init c = (omega arith, λ j l m. absurd (omega arith), fill_none _ _, unfold sumZ in refl)

pub user_balance-requires : goal.user_balance-requires
user_balance-requires c = (omega arith, c.requires.2 c.loop-s.s (omega arith))

pub overflow_add-whole : goal.overflow_add-whole
overflow_add-whole c =
    let p = c.requires in
    let l = c.loop-s in
    added_fits _ _ _ l.s (p.1 l.s (omega arith)) (p.2 l.s (omega arith)) (fill_next l.invariant.2 (pos 0) (omega arith)) c.user_balance.ensures

pub returns-then-unsigned_abs-gt-AMOUNT : goal.returns-then-unsigned_abs-gt-AMOUNT
returns-then-unsigned_abs-gt-AMOUNT c =
    let p = c.requires in
    let l = c.loop-s in
    let is = added_back _ _ _ l.s (p.1 l.s (omega arith)) (p.2 l.s (omega arith)) (fill_next l.invariant.2 (pos 0) (omega arith)) c.user_balance.ensures in
    let e = rw is at c.unsigned_abs.ensures.value in
    λ p. omega (arith, e, c.if-unsigned_abs-gt-AMOUNT.true, p.wholes.each l.s (omega arith))

pub overflow_add-sum : goal.overflow_add-sum
overflow_add-sum c =
    let p = c.requires in
    let l = c.loop-s in
    added_sum_fits _ _ _ l.s (p.1 l.s (omega arith)) (p.2 l.s (omega arith)) (fill_next l.invariant.2 (pos 0) (omega arith)) c.user_balance.ensures l.invariant.1 c.unsigned_abs.ensures.value (omega (arith, c.if-unsigned_abs-gt-AMOUNT.false)) _ l.invariant.3 (omega arith)

pub loop-s-preserved : goal.loop-s-preserved
loop-s-preserved c =
    let p = c.requires in
    let l = c.loop-s in
    let w = p.1 l.s (omega arith) in
    let z = p.2 l.s (omega arith) in
    let n = fill_next l.invariant.2 (pos 0) (omega arith) in
    let u = c.unsigned_abs.ensures.value in
    let m = c.if-unsigned_abs-gt-AMOUNT.false in (
      omega arith,
      added_all _ _ _ l.s w z n c.user_balance.ensures l.invariant.1 u (omega (arith, m)),
      fill_step l.invariant.2 (omega arith) (added_back _ _ _ l.s w z n c.user_balance.ensures),
      added_sum_kept _ _ _ l.s w z n c.user_balance.ensures l.invariant.1 u (omega (arith, m)) _ l.invariant.3 (omega arith),
    )
