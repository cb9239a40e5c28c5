-- What the rows of an inventory are, in whatever order they are listed. Assumes nothing.
use Rattle.std.specs.Prelude.{Bool, List, ◌≡◌, ℕ, ◌≤◌, ◌<◌, eqb, length, get_or}
use Rattle.numbers.specs.Sums.{bit}
use Rattle.numbers.specs.Lists.{both}
use Rattle.point_day.specs.Limits.{KINDS}
use Rattle.point_day.specs.Day.{User, Day, empty_user}
use Rattle.inventory.specs.Inventory.{Row, row_of, some_amount, those, rows, Reordered}

-- a row of the user and kind
abbrev pub is_of : User → ℕ → Row → Bool
is_of u kind r = both (eqb r.user u.number) (eqb r.kind kind)

-- the s-th user
abbrev pub user : Day → ℕ → User
user d s = get_or d.users s (empty_user 0)

-- "for each user and kind not all zero .. each exactly once"
pub record ExactlyOnce (d : Day) : Type 0 where
  pub once : (listed : List Row) → Reordered listed (rows d) → (s kind : ℕ) → s < length d.users → 1 ≤ kind → kind ≤ KINDS
      → length (those (is_of (user d s) kind) listed) ≡ bit (some_amount (row_of (user d s) kind))
  -- and nothing besides
  pub as_many : (listed : List Row) → Reordered listed (rows d) → length listed ≡ length (rows d)
