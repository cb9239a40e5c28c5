-- Document 01, section "Day file and inventory": a row of the inventory, and its numbers in a buffer. Assumes nothing.
use Rattle.std.specs.Prelude.{Bool, not, List, [], ◌∷◌, ◌++◌, ◌≡◌, ℕ, ◌+◌, ℤ, pos, length, take, drop}
use Rattle.numbers.specs.Sums.{pick}
use Rattle.numbers.specs.Lists.{both}
use Rattle.point_day.specs.Day.{is_zero}

-- "five numbers (user, kind, consumption, losses, balance)"
abbrev pub ROW : ℕ
ROW = 5

-- some amount of a cell is not 0
abbrev pub is_row : ℤ → ℤ → ℤ → Bool
is_row c l b = not (both (is_zero c) (both (is_zero l) (is_zero b)))

-- a row's numbers; those of a cell that is a row, or nothing
abbrev pub row : ℕ → ℕ → ℤ → ℤ → ℤ → List ℤ
row user kind c l b = pos user ∷ pos kind ∷ c ∷ l ∷ b ∷ []

abbrev pub row_if : ℕ → ℕ → ℤ → ℤ → ℤ → List ℤ
row_if user kind c l b = pick (is_row c l b) (row user kind c l b) []

-- `after` is `before` with the numbers xs from a place on, and `next` is the place after them
pub record Put (place : ℕ) (xs before : List ℤ) (next : ℕ) (after : List ℤ) : Type 0 where
  pub next_is : next ≡ place + length xs
  pub buffer : after ≡ take place before ++ (xs ++ drop next before)
