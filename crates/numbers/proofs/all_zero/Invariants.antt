use Prim.Native.Nat.{ℕ, ◌≤◌, ◌<◌}
use mir.Syntax.{w64}
use mir.Val.{of_z}
use lib.IntN.{pos}
use lib.ListN.{length}
use Rattle.numbers.specs.Sums.{atZ}
use Rattle.numbers.specs.Amounts.{Between}
use Rattle.numbers.proofs.Bits.{Gathered}
use Rattle.numbers.proofs.all_zero.Given as goal

abbrev pub invariant-loop-i : goal.invariant-loop-i
invariant-loop-i l = (l.from ≤ l.i) × ((k : ℕ) → l.from ≤ k → k < l.i → k < length l.xs) × Gathered 0 (of_z w64 l.bits) ((k : ℕ) → l.from ≤ k → k < l.i → Between (pos 0) (pos 0) (atZ l.xs k))
