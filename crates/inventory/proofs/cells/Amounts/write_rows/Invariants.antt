use Rattle.inventory.proofs.cells.Rows.{RowsSoFar}
use Rattle.inventory.proofs.cells.Amounts.write_rows.Given as goal

abbrev pub invariant-loop-i : goal.invariant-loop-i
invariant-loop-i l = RowsSoFar l.users l.self.consumption.now l.self.losses.now l.self.balance.now l.initial.out l.i l.place l.out
