use Prim.Native.Nat.{◌≤◌}
use mir.Syntax.{w64}
use mir.Val.{of_z}
use Rattle.numbers.proofs.Bits.{Gathered}
use Rattle.state.proofs.Lows.{LowKinds}
use Rattle.state.proofs.user_low.Given as goal

abbrev pub invariant-loop-k : goal.invariant-loop-k
invariant-loop-k l = (l.k ≤ 5) × Gathered 33 (of_z w64 l.bits) (LowKinds l.consumption l.losses l.slot l.k)
