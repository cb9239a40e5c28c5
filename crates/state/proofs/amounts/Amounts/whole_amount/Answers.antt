-- `state::amounts::Amounts::whole_amount` meets its contract: the sum of the kinds passed so far. Assumes nothing.
use mathlib.Core.Path.{refl}
use native.Mathlib.Omega.{arith}
use Rattle.numbers.specs.Sums.{sumZ}
use Rattle.state.proofs.Ranges.{kind_fits, kind_kept, whole_fits, whole_kept}
use Rattle.state.proofs.amounts.Amounts.whole_amount.Goals as goal

pub loop-k-init : goal.loop-k-init
loop-k-init c = (omega arith, unfold sumZ in refl)

pub overflow_add-sum : goal.overflow_add-sum
overflow_add-sum c =
    let p = c.requires in
    rw c.cell_sum-sum.ensures (kind_fits _ _ _ p.1 p.2 p.3 c.args.slot c.loop-k.k _ c.loop-k.invariant.1 (omega arith))

pub loop-k-preserved : goal.loop-k-preserved
loop-k-preserved c =
    let p = c.requires in
    (omega arith, rw c.cell_sum-sum.ensures (kind_kept _ _ _ p.1 p.2 p.3 c.args.slot c.loop-k.k _ c.loop-k.invariant.1 (omega arith)))

pub overflow_add-result : goal.overflow_add-result
overflow_add-result c =
    let p = c.requires in
    whole_fits _ _ _ p.1 p.2 p.3 c.args.slot _ p.4 c.loop-k.k _ c.loop-k.invariant.1 (omega arith)

pub returns : goal.returns
returns c =
    let p = c.requires in
    whole_kept _ _ _ p.1 p.2 p.3 c.args.slot _ p.4 c.loop-k.k _ c.loop-k.invariant.1 (omega arith)
