-- `report::of_slots` meets its contract. Assumes nothing.
use Prim.Native.Nat.{◌*◌}
use lib.ListN.{length-take}
use Rattle.numbers.proofs.Amounts.{widen}
use Rattle.state.specs.Places.{ROOM}
use Rattle.report.proofs.lines.Sizes.{within_part}
use native.Mathlib.Omega.{arith}
use Rattle.report.proofs.of_slots.Goals as goal

pub slice_bounds-sum_of-end : goal.slice_bounds-sum_of-end
slice_bounds-sum_of-end c = omega (arith, length-take (5 * c.args.n) c.args.xs.now)

pub sum_of-requires : goal.sum_of-requires
sum_of-requires c = (omega (arith, length-take (5 * c.args.n) c.args.xs.now), λ i. widen (within_part ROOM c.args.xs.now c.requires.1 0 (5 * c.args.n) i) (omega arith))
