-- `numbers::sum_of` meets its contract. Assumes nothing.
use mathlib.Core.Path.{◌≡◌, refl}
use lib.ListN.{length}
use Rattle.numbers.specs.Sums.{sumZ, atZ}
use Rattle.numbers.proofs.Sums.{totalZ_sum}
use Rattle.numbers.proofs.Amounts.{turn_kept, turn_fits}
use native.Mathlib.Omega.{arith}
use Rattle.numbers.proofs.sum_of.Goals as goal

pub loop-x-init : goal.loop-x-init
loop-x-init c = (unfold sumZ in refl, omega arith)

pub overflow_add-s : goal.overflow_add-s
overflow_add-s c = turn_fits 1000000000000 (atZ c.args.xs.now) c.requires.1 c.loop-x.x-index _ c.loop-x.invariant.0 (omega arith)

pub loop-x-preserved : goal.loop-x-preserved
loop-x-preserved c = (turn_kept 1000000000000 (atZ c.args.xs.now) c.requires.1 c.loop-x.x-index _ c.loop-x.invariant.0 (omega arith), omega arith)

pub returns : goal.returns
returns c =
    let f = atZ c.args.xs.now in
    let e : c.loop-x.x-index ≡ length c.args.xs.now = omega arith in
    rw (c.loop-x.invariant.0, totalZ_sum c.args.xs.now, ← e) refl
