-- A stand-in's rows in three lists, and what they hold, place by place. Assumes nothing.
use Rattle.std.specs.Prelude.{Option, Some, None, Bool, List, ◌≡◌, ℕ, ◌*◌, ◌≤◌, ◌<◌, eqb, ℤ, pos, length, get_or, replicate}
use Rattle.numbers.specs.Sums.{pick}
use Rattle.numbers.specs.Lists.{both}
use Rattle.point_day.specs.Limits.{USERS, ROWS}
use Rattle.point_day.specs.declared.StandInRows.{StandInRows}

-- the rows of three arrays
abbrev pub rows : List ℕ → List ℕ → List ℤ → StandInRows
rows cs us zs = record { counts = cs; users = us; amounts = zs }

-- three lists that hold rows: fifteen counts; user and amount of pair j of row i at 64 × i + j
unfoldable pub rows_readable : List ℕ → List ℕ → List ℤ → Bool
rows_readable cs us zs =
    both (eqb (length cs) ROWS) (both (eqb (length us) (USERS * ROWS)) (eqb (length zs) (USERS * ROWS)))

-- rows outside their stated range: each is a pair of user 0
abbrev pub rows_out_of_range : StandInRows
rows_out_of_range = rows (replicate ROWS 1) (replicate (USERS * ROWS) 0) (replicate (USERS * ROWS) (pos 0))

-- the rows that three lists hold; lists of other lengths are rows outside their stated range
unfoldable pub rows_in : List ℕ → List ℕ → List ℤ → StandInRows
rows_in cs us zs = pick (rows_readable cs us zs) (rows cs us zs) rows_out_of_range

-- r is the place, from 0, of the first of the rows' counts that is not 0, or the number of rows
pub record Nearest (counts : List ℕ) (r : ℕ) : Type 0 where
  pub within : r ≤ ROWS
  pub before : (k : ℕ) → k < r → get_or counts k 0 ≡ 0
  pub there : r < ROWS → get_or counts r 0 ≡ 0 → ⊥

-- the place of the first of the rows' counts that is not 0, if there is one
abbrev pub NearestFilled : List ℕ → Option ℕ → Type 0
NearestFilled counts (Some r) = Nearest counts r × (r < ROWS)
NearestFilled counts None = Nearest counts ROWS
