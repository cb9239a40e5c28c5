-- What start-final writes into the arrays of a point-day, and what its tests find. Assumes nothing. No exported contract leans on it.
use Rattle.std.specs.Prelude.{true, false, ◌≡◌, ℕ, pos, replicate}
use Rattle.point_day.specs.Limits.{USERS, CELLS}
use Rattle.point_day.specs.Fields.{set_stage, set_allotted, set_consumption, set_losses, set_balance, set_revision}
use Rattle.point_day.specs.Day.{next}
use Rattle.point_day.specs.Calls.{refused, done, start_final}
use Rattle.point_day.specs.Struct.{taken, outcome, called}
use Rattle.point_day.specs.declared.PointDay.{PointDay}

-- the next stage, entering; users and measurement as they were, all else zero
abbrev pub restarted : PointDay → PointDay
restarted d =
    set_stage (next d.stage)
    (set_allotted false
    (set_consumption (replicate CELLS (pos 0))
    (set_losses (replicate CELLS (pos 0)) (set_balance (replicate CELLS (pos 0)) (set_revision (replicate USERS (pos 0)) d)))))

-- a start-final that passes its tests: the call restarts the point-day
pub record Starts (d : PointDay) : Type 0 where
  pub is : outcome done (restarted d) ≡ called start_final d
  pub taken : taken d ≡ true

-- what the tests of a start-final find, 0 or the number of a refusal, is what the call does
pub record Tested (d : PointDay) (r : ℕ) : Type 0 where
  pub passed : r ≡ 0 → Starts d
  pub failed : (r ≡ 0 → ⊥) → outcome (refused r) d ≡ called start_final d
