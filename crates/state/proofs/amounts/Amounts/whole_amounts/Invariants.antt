use Prim.Native.Nat.{◌≤◌}
use lib.ListN.{length}
use Rattle.numbers.proofs.Filled.{Filled}
use Rattle.state.specs.Places.{whole_at}
use Rattle.state.proofs.amounts.Amounts.whole_amounts.Given as goal

abbrev pub invariant-loop-s : goal.invariant-loop-s
invariant-loop-s l = (l.s ≤ length l.initial.wholes) × Filled (whole_at l.self.consumption.now l.self.losses.now l.self.balance.now l.self.revision.now) l.initial.wholes l.s l.wholes
