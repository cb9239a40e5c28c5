use Prim.Native.Nat.{◌≤◌}
use lib.ListN.{length}
use Rattle.numbers.specs.Sums.{at}
use Rattle.numbers.proofs.Filled.{Filled}
use Rattle.columns.proofs.keys_of.Given as goal

abbrev pub invariant-loop-i : goal.invariant-loop-i
invariant-loop-i l = (l.i ≤ length l.initial.keys) × Filled (at l.users) l.initial.keys l.i l.keys
