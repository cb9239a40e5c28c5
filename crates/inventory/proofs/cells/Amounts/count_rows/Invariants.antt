use mathlib.Core.Path.{◌≡◌}
use Prim.Native.Nat.{◌≤◌}
use Rattle.inventory.specs.Cells.{row_count}
use Rattle.inventory.proofs.cells.Amounts.count_rows.Given as goal

abbrev pub invariant-loop-i : goal.invariant-loop-i
invariant-loop-i l = (l.count ≡ row_count l.self.consumption.now l.self.losses.now l.self.balance.now l.i) × (l.count ≤ l.i)
