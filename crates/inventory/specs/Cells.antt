-- The inventory by cells: kind k of slot s is cell 5 × s + k − 1. Assumes nothing. No exported contract leans on it.
use Rattle.std.specs.Prelude.{List, ℕ, ◌+◌, ◌/◌, ◌%◌, ℤ}
use Rattle.numbers.specs.Sums.{bit, sum, table, at, atZ}
use Rattle.numbers.specs.Lists.{flat}
use Rattle.point_day.specs.Limits.{KINDS}
use Rattle.inventory.specs.Row.{is_row, row_if}

-- the numbers of the row of cell i, or nothing
abbrev pub cell : List ℕ → List ℤ → List ℤ → List ℤ → ℕ → List ℤ
cell us cs ls bs i = row_if (at us (i / KINDS)) (i % KINDS + 1) (atZ cs i) (atZ ls i) (atZ bs i)

-- and of the first n cells
unfoldable pub cells : List ℕ → List ℤ → List ℤ → List ℤ → ℕ → List ℤ
cells us cs ls bs n = flat (table (cell us cs ls bs) n)

-- how many of the first n cells are rows
unfoldable pub row_count : List ℤ → List ℤ → List ℤ → ℕ → ℕ
row_count cs ls bs n = sum (λ i. bit (is_row (atZ cs i) (atZ ls i) (atZ bs i))) n
