-- The row that a stand-in uses, its tests and shares, and a point-day opened with a list of users. Assumes nothing. No exported contract
-- leans on it.
use Rattle.std.specs.Prelude.{true, List, [], ◌∷◌, ◌++◌, map, ◌≡◌, ℕ, ◌*◌, ◌≤◌, ◌<◌, ℤ, pos, nat_abs, length, get_or, take, drop}
use Rattle.numbers.specs.Lists.{every}
use Rattle.proration.specs.Proration.{prorateZ}
use Rattle.point_day.specs.Limits.{USERS, LIMIT, ROWS}
use Rattle.point_day.specs.Fields.{set_allotted, set_count, set_users, set_revision}
use Rattle.point_day.specs.Day.{Pair, too_large}
use Rattle.point_day.specs.Calls.{Test, ◌when◌, refuse, accept, verdict, users_of, amounts_of, row_right, negative, opened}
use Rattle.point_day.specs.Struct.{padded, rows_of}
use Rattle.point_day.specs.declared.PointDay.{PointDay}
use Rattle.point_day.specs.declared.StandInRows.{StandInRows}
use Rattle.stand_in.specs.Rows.{Nearest}

-- the user numbers of row r, in the lists of all rows
abbrev pub row_users : List ℕ → List ℕ → ℕ → List ℕ
row_users counts users r = take (get_or counts r 0) (drop (USERS * r) users)

-- row r stands in these lists of all rows
pub record RowAt (counts users : List ℕ) (r : ℕ) : Type 0 where
  pub found : r < ROWS
  pub few : get_or counts r 0 ≤ USERS
  pub counts_long : length counts ≡ ROWS
  pub users_long : length users ≡ USERS * ROWS

-- rows in their range, of which the one at place r is used, for a net of n
pub record Usable (rs : StandInRows) (n r : ℕ) : Type 0 where
  pub right : every row_right (rows_of rs) ≡ true
  pub nearest : Nearest rs.counts r
  pub found : r < ROWS
  pub net : n ≤ LIMIT

-- the last tests of a stand-in with net z: refusals 11 and 12, of the pairs of the row that is used
abbrev pub row_tests : ℤ → List Pair → List Test
row_tests z ps = (11 when negative (amounts_of ps)) ∷ (12 when too_large (opened z ps)) ∷ []

-- the shares of its users, and zeros past them
abbrev pub row_shares : ℤ → List Pair → List ℤ
row_shares z ps = padded USERS (pos 0) (prorateZ z (map nat_abs (amounts_of ps)) (users_of ps))

-- what these tests find, 0 or the number of a refusal, and the shares if it is 0
pub record RowTested (z : ℤ) (ps : List Pair) (r : ℕ) (column : List ℤ) : Type 0 where
  pub passed : r ≡ 0 → verdict (row_tests z ps) ≡ accept
  pub shares : r ≡ 0 → column ≡ row_shares z ps
  pub failed : (r ≡ 0 → ⊥) → verdict (row_tests z ps) ≡ refuse r

-- Opening a day with a list, of a point-day without users: they join, with shares as their revisions, and the stage is allotted.
-- All else stays.
abbrev pub opened_with : List ℕ → List ℤ → PointDay → PointDay
opened_with users shares d =
    set_allotted true
    (set_count (length users) (set_users (users ++ drop (length users) d.users) (set_revision shares d)))
