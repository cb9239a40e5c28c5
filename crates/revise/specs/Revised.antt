-- What the tests of a revise find. Assumes nothing. No exported contract leans on it.
use Rattle.std.specs.Prelude.{Result, Ok, Err, true, List, ◌≡◌, ℕ, ℤ}
use Rattle.numbers.specs.Refusals.{number_of}
use Rattle.numbers.specs.declared.Refusal.{Refusal}
use Rattle.point_day.specs.Fields.{set_revision}
use Rattle.point_day.specs.Calls.{refused, within_tolerance, revision_assigned, revise}
use Rattle.point_day.specs.Struct.{taken, outcome, called}
use Rattle.point_day.specs.declared.PointDay.{PointDay}
use Rattle.taken.specs.Tested.{Known}
use Rattle.taken.specs.declared.State.{State}
use Rattle.revise.specs.declared.Revision.{Revision}
use Rattle.revise.specs.declared.Revision.TheVariants.{Within, Assigned}

-- a revise that assigns R: the call puts the column's revisions
pub record Assigns (tolerance : ℕ) (d : PointDay) (R : ℤ) (column : List ℤ) : Type 0 where
  pub is : outcome (revision_assigned R) (set_revision column d) ≡ called (revise tolerance) d
  pub taken : taken d ≡ true

-- what the tests of a revise find, and then leave in the column, is what the call does
abbrev pub Tested : ℕ → PointDay → Result Revision Refusal → List ℤ → Type 0
Tested tolerance d (Err r) column = outcome (refused (number_of r)) d ≡ called (revise tolerance) d
Tested tolerance d (Ok (Within R)) column = outcome (within_tolerance R) d ≡ called (revise tolerance) d
Tested tolerance d (Ok (Assigned R)) column = Assigns tolerance d R column

-- d is a taken point-day of which the test found `state`, and has the revisions rs
pub record Has (state : State) (rs : List ℤ) (d : PointDay) : Type 0 where
  pub known : Known d state
  pub revision : d.revision ≡ rs
