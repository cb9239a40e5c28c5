-- The weights of the users, from the cells, slot by slot. Assumes nothing. No exported contract leans on it.
use Rattle.std.specs.Prelude.{Bool, false, List, map, ◌≡◌, ℕ, ◌+◌, ◌≤◌, eqb, ℤ, pos, nat_abs, length}
use Rattle.numbers.specs.Sums.{table, atZ, total}
use Rattle.numbers.specs.Amounts.{Between}
use Rattle.point_day.specs.Limits.{CELLS, LIMIT}
use Rattle.point_day.specs.Day.{User, empty_user, with_consumption, with_losses}
use Rattle.point_day.specs.Calls.{by_basis}
use Rattle.point_day.specs.Struct.{kinds_of}

-- a list of consumption or losses: each cell lies in 0 to 1,000,000,000
pub record InRange (xs : List ℤ) : Type 0 where
  pub long : length xs ≡ CELLS
  pub range : (i : ℕ) → Between (pos 0) (pos LIMIT) (atZ xs i)

-- both, and "All consumption and losses of a point-day together stay at or below 1,000,000,000"
pub record CellsInRange (cs ls : List ℤ) : Type 0 where
  pub consumption : InRange cs
  pub losses : InRange ls
  pub sum : total (map nat_abs cs) + total (map nat_abs ls) ≤ LIMIT

-- the user of slot s, as far as consumption and losses tell
abbrev pub consumption_and_losses : List ℤ → List ℤ → ℕ → User
consumption_and_losses cs ls s = with_consumption (map nat_abs (kinds_of s cs)) (with_losses (map nat_abs (kinds_of s ls)) (empty_user 0))

-- the weight of the user of slot s, by all kinds or by kinds 2 to 5
abbrev pub weight_at : Bool → List ℤ → List ℤ → ℕ → ℕ
weight_at all cs ls s = total (by_basis all (consumption_and_losses cs ls s))

-- the weights of n users
abbrev pub weights : Bool → List ℤ → List ℤ → ℕ → List ℕ
weights all cs ls n = table (weight_at all cs ls) n

-- "these are zero for all users"
abbrev pub by_all_kinds : List ℤ → List ℤ → ℕ → Bool
by_all_kinds cs ls n = eqb (total (weights false cs ls n)) 0

-- the weights that count
abbrev pub basis_weights : List ℤ → List ℤ → ℕ → List ℕ
basis_weights cs ls n = weights (by_all_kinds cs ls n) cs ls n
