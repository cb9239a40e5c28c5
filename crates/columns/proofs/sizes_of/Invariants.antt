use Prim.Native.Nat.{◌≤◌}
use lib.IntN.{nat_abs}
use lib.ListN.{length}
use Rattle.numbers.specs.Sums.{atZ}
use Rattle.numbers.proofs.Filled.{Filled}
use Rattle.columns.proofs.sizes_of.Given as goal

abbrev pub invariant-loop-i : goal.invariant-loop-i
invariant-loop-i l = (l.i ≤ length l.amounts) × Filled (λ k. nat_abs (atZ l.amounts k)) l.initial.sizes l.i l.sizes
