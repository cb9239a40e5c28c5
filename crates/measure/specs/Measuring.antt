-- A measure that passes its tests, and what the tests find. Assumes nothing. No exported contract leans on it.
use Rattle.std.specs.Prelude.{true, ◌≡◌, ℕ}
use Rattle.point_day.specs.Fields.{set_measurement}
use Rattle.point_day.specs.Day.{emission_right}
use Rattle.point_day.specs.Calls.{refused, done, measure}
use Rattle.point_day.specs.Struct.{taken, outcome, called}
use Rattle.point_day.specs.declared.PointDay.{PointDay}
use Rattle.point_day.specs.Day.{metered}

-- a measure that passes its tests: the call stores emission e and downstream emission w
pub record Measures (e w : ℕ) (d : PointDay) : Type 0 where
  pub is : outcome done (set_measurement (metered e w) d) ≡ called (measure e w) d
  pub taken : taken d ≡ true
  pub right : emission_right e w ≡ true

-- what the tests of a measure find, 0 or the number of a refusal, is what the call does
pub record Tested (e w : ℕ) (d : PointDay) (r : ℕ) : Type 0 where
  pub passed : r ≡ 0 → Measures e w d
  pub failed : (r ≡ 0 → ⊥) → outcome (refused r) d ≡ called (measure e w) d
