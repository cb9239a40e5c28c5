use mathlib.Core.Path.{◌≡◌}
use Prim.Native.Nat.{◌≤◌}
use lib.ListN.{length}
use Rattle.numbers.specs.Sums.{sumZ, atZ}
use Rattle.numbers.proofs.sum_of.Given as goal

abbrev pub invariant-loop-x : goal.invariant-loop-x
invariant-loop-x l = (l.s ≡ sumZ (atZ l.xs) l.x-index) × (l.x-index ≤ length l.xs)
