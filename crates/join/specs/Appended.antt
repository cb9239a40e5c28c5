-- What join writes into a point-day. Assumes nothing. No exported contract leans on it.
use Rattle.std.specs.Prelude.{true, ◌≡◌, ℕ, ◌+◌, ◌<◌, set}
use Rattle.point_day.specs.Limits.{USERS}
use Rattle.point_day.specs.Fields.{set_count, set_users}
use Rattle.point_day.specs.Calls.{refused, done, join}
use Rattle.point_day.specs.Struct.{taken, outcome, called}
use Rattle.point_day.specs.declared.PointDay.{PointDay}

-- one user more, in the next slot
abbrev pub appended : ℕ → PointDay → PointDay
appended n d = set_count (d.count + 1) (set_users (set d.users d.count n) d)

-- a join that passes its tests: the call appends the user
pub record Joins (n : ℕ) (d : PointDay) : Type 0 where
  pub is : outcome done (appended n d) ≡ called (join n) d
  pub taken : taken d ≡ true
  pub room : d.count < USERS

-- what the tests of a join find, 0 or the number of a refusal, is what the call does
pub record Tested (n : ℕ) (d : PointDay) (r : ℕ) : Type 0 where
  pub passed : r ≡ 0 → Joins n d
  pub failed : (r ≡ 0 → ⊥) → outcome (refused r) d ≡ called (join n) d
