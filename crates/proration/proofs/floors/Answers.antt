-- `proration::floors` meets its contract. Assumes nothing.
use native.Mathlib.Nat.{mul-le-mul}
use Rattle.numbers.proofs.Sums.{total_sum, sum_none, sum_more, sum_mono}
use Rattle.numbers.proofs.Filled.{fill_none, fill_step, fill_end, fill_all}
use Rattle.proration.proofs.Shares.{floors_le}
use mathlib.Core.Path.{sym}
use mathlib.Core.Path.{◌≡◌, refl, ◌∙◌}
use Prim.Native.Nat.{◌+◌}
use lib.ListN.{length}
use Rattle.numbers.specs.Sums.{at}
use Rattle.proration.specs.Proration.{floor}
use native.Mathlib.Omega.{arith}
use Rattle.proration.proofs.floors.Goals as goal

pub loop-i-init : goal.loop-i-init
loop-i-init c = (omega arith, sum_none _, fill_none _ _, fill_none _ _)

pub overflow_mul-x : goal.overflow_mul-x
overflow_mul-x c = omega (arith, mul-le-mul c.requires.amount_bound.0 (c.args.weights.bounded c.loop-i.i))

pub overflow_add-given : goal.overflow_add-given
overflow_add-given c =
    let f = floor c.args.amount c.args.weights.sum (at c.args.weights.each.now) in
    let i = c.loop-i.i in
    let n = length c.args.weights.each.now in
    omega (
      arith,
      sum_more f i,
      sum_mono f (i + 1) n (omega arith),
      floors_le c.args.amount c.args.weights.sum (at c.args.weights.each.now) n c.requires.amount_bound.1 (sym (total_sum c.args.weights.each.now) ∙ sym c.args.weights.summed),
    )

pub loop-i-preserved : goal.loop-i-preserved
loop-i-preserved c =
    let f = floor c.args.amount c.args.weights.sum (at c.args.weights.each.now) in
    let i = c.loop-i.i in (
      omega arith,
      omega (arith, sum_more f i),
      fill_step c.loop-i.invariant.2 (omega arith) refl,
      fill_step c.loop-i.invariant.3 (omega arith) refl,
    )

pub returns : goal.returns
returns c =
    let e : c.loop-i.i ≡ length c.args.weights.each.now = omega arith in record { value = rw (← e) c.loop-i.invariant.1; shares_after = fill_end c.loop-i.invariant.2 e; rems_after = rw (← e) (fill_all c.loop-i.invariant.3 (omega arith)) }
