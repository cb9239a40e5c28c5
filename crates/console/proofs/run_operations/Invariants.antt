use mathlib.Core.Path.{◌≡◌}
use Prim.Native.Nat.{◌≤◌}
use lib.ListN.{length}
use Rattle.console.proofs.run_operations.Given as goal

abbrev pub invariant-loop-input : goal.invariant-loop-input
invariant-loop-input g l =
    (length l.input ≤ length l.fn.bytes) × (length l.fn.bytes ≡ 0 → (l.program ≡ l.fn.program) × (l.out ≡ l.fn.out))

abbrev pub decreases-loop-input : goal.decreases-loop-input
decreases-loop-input g l = length l.input
