use Prim.Native.Nat.{suc, ◌≤◌}
use lib.ListN.{length}
use Rattle.numbers.proofs.Filled.{Filled}
use Rattle.spread.proofs.write_days.Given as goal

abbrev pub invariant-loop-i : goal.invariant-loop-i
invariant-loop-i l = (l.i ≤ length l.initial.keys) × Filled suc l.initial.keys l.i l.keys
