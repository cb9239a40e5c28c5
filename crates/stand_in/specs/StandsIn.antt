-- A stand-in that passes its tests, and what the tests find. Assumes nothing. No exported contract leans on it.
use Rattle.std.specs.Prelude.{Result, Ok, Err, true, List, ◌≡◌, ℕ, ◌+◌, ℤ}
use Rattle.numbers.specs.Refusals.{number_of}
use Rattle.numbers.specs.declared.Refusal.{Refusal}
use Rattle.point_day.specs.Calls.{refused, rows_looked_at, stand_in}
use Rattle.point_day.specs.Struct.{taken, rows_of, outcome, called}
use Rattle.point_day.specs.declared.PointDay.{PointDay}
use Rattle.stand_in.specs.Rows.{rows_in}
use Rattle.stand_in.specs.Openings.{RowAt, row_users, opened_with}

-- a stand-in with rows in three lists that passes its tests: the call opens the day with the users of row r and these shares
pub record StandsIn (tolerance : ℕ) (counts users : List ℕ) (amounts : List ℤ) (d : PointDay) (r : ℕ) (shares : List ℤ) : Type 0 where
  pub is : outcome (rows_looked_at (r + 1)) (opened_with (row_users counts users r) shares d)
      ≡ called (stand_in tolerance (rows_of (rows_in counts users amounts))) d
  pub taken : taken d ≡ true
  pub nobody : d.count ≡ 0
  pub row : RowAt counts users r

-- what the tests of a stand-in find, with the column of shares afterwards, is what the call does
abbrev pub Tested : ℕ → List ℕ → List ℕ → List ℤ → PointDay → Result ℕ Refusal → List ℤ → Type 0
Tested tolerance cs us zs d (Err r) shares = outcome (refused (number_of r)) d ≡ called (stand_in tolerance (rows_of (rows_in cs us zs))) d
Tested tolerance cs us zs d (Ok r) shares = StandsIn tolerance cs us zs d r shares
