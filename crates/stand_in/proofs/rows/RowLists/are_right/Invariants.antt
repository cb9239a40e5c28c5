use mathlib.Core.Path.{◌≡◌}
use mathlib.Core.Bool.{true}
use Prim.Native.Nat.{ℕ, ◌<◌}
use Rattle.point_day.specs.Calls.{row_right}
use Rattle.point_day.specs.Struct.{row_at}
use Rattle.stand_in.specs.Rows.{rows}
use Rattle.stand_in.proofs.rows.RowLists.are_right.Given as goal

abbrev pub invariant-loop-i : goal.invariant-loop-i
invariant-loop-i l = (k : ℕ) → k < l.i → row_right (row_at (rows l.self.counts.now l.self.users.now l.self.amounts.now) k) ≡ true
