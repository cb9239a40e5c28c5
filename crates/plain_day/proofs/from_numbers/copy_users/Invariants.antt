use Prim.Native.Nat.{◌≤◌}
use lib.IntN.{nat_abs}
use lib.ListN.{length}
use Rattle.numbers.specs.Sums.{atZ}
use Rattle.numbers.proofs.Filled.{Filled}
use Rattle.plain_day.proofs.from_numbers.copy_users.Given as goal

abbrev pub invariant-loop-i : goal.invariant-loop-i
invariant-loop-i l = (l.i ≤ length l.xs) × Filled (λ k. nat_abs (atZ l.xs k)) l.initial.users l.i l.users
