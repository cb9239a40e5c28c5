-- The inventory of a point-day in plain numbers. Assumes nothing.
use Rattle.std.specs.Prelude.{List, ℕ, ℤ}
use Rattle.numbers.specs.Sums.{pick}
use Rattle.inventory.specs.Inventory.{Answer, refused, written, inventory}
use Rattle.plain_day.specs.Layout.{is_readable, day_in}

-- numbers that no point-day is read from are a list outside its stated range
unfoldable pub plain_inventory : List ℤ → List ℤ → Answer
plain_inventory xs out = pick (is_readable xs) (inventory (day_in xs) out) (refused 2)

-- 0, or the number of the refusal
abbrev pub status : Answer → ℕ
status (refused n) = n
status (written count) = 0

-- the count of rows; a refusal leaves the number that was there before
abbrev pub row_count : Answer → ℕ → ℕ
row_count (refused n) before = before
row_count (written rows) before = rows
