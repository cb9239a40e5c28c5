-- What an inventory answers, and writes into a lent buffer. Assumes nothing. No exported contract leans on it.
use Rattle.std.specs.Prelude.{List, ◌++◌, ◌≡◌, ℕ, ◌*◌, ℤ, drop}
use Rattle.point_day.specs.Limits.{KINDS}
use Rattle.point_day.specs.Struct.{read}
use Rattle.point_day.specs.declared.PointDay.{PointDay}
use Rattle.inventory.specs.Row.{ROW}
use Rattle.inventory.specs.Cells.{cells, row_count}
use Rattle.inventory.specs.Inventory.{Answer, inventory, Afterwards}

-- the count of a point-day's rows, cell after cell
abbrev pub row_total : PointDay → ℕ
row_total d = row_count d.consumption d.losses d.balance (KINDS * d.count)

-- a buffer with these rows at its start; later numbers stay
abbrev pub listed_in : PointDay → List ℤ → List ℤ
listed_in d before =
    cells d.users d.consumption d.losses d.balance (KINDS * d.count) ++ drop (ROW * row_total d) before

-- a is the answer of the inventory of d into a buffer, which is then `after`
abbrev pub Ends : PointDay → List ℤ → Answer → List ℤ → Type 0
Ends d before a after = (a ≡ inventory d before) × Afterwards (inventory d before) (read d) before after
