use Rattle.numbers.proofs.Filled.{Filled}
use mathlib.Core.Path.{◌≡◌}
use Prim.Native.Nat.{◌≤◌}
use lib.ListN.{length}
use Rattle.numbers.specs.Sums.{sum, at}
use Rattle.proration.specs.Proration.{floor, rem}
use Rattle.proration.proofs.floors.Given as goal

abbrev pub invariant-loop-i : goal.invariant-loop-i
invariant-loop-i l = (l.i ≤ length l.weights.each.now) × (l.given ≡ sum (floor l.amount l.weights.sum (at l.weights.each.now)) l.i) × Filled (floor l.amount l.weights.sum (at l.weights.each.now)) l.initial.shares l.i l.shares × Filled (rem l.amount l.weights.sum (at l.weights.each.now)) l.initial.rems l.i l.rems
