-- What the test of plain numbers tells of them, and what a call's tests find then. Assumes nothing.
use mathlib.Core.Path.{◌≡◌, sym}
use mathlib.Core.Bool.{true}
use mathlib.Core.List.{List}
use Prim.Native.Nat.{ℕ}
use lib.IntN.{ℤ}
use lib.ListN.{length}
use Rattle.std.specs.Prelude.{Ok}
use Rattle.numbers.specs.Refusals.{number_of}
use Rattle.numbers.specs.declared.Refusal.{Refusal}
use Rattle.point_day.specs.Answers.{refused}
use Rattle.point_day.specs.Calls.{Move}
use Rattle.point_day.specs.Day.{Day}
use Rattle.point_day.specs.Struct.{outcome, called}
use Rattle.taken.specs.declared.State.{State}
use Rattle.plain_day.specs.Layout.{LENGTH, is_readable, stage_in, day_in}
use Rattle.plain_day.specs.Plain.{plain, plain_call}
use Rattle.plain_day.specs.Tested.{TestedNumbers}
use Rattle.plain_day.proofs.Outcomes.{refuses}
use Rattle.plain_day.proofs.Ranges.{laid_length}

module _ (xs : List ℤ) {s : State} (t : TestedNumbers xs (Ok s)) where
  pub long : length xs ≡ LENGTH
  long = laid_length xs t.0

  pub stage_read : s.stage ≡ stage_in xs
  unfolding day_in
  stage_read = sym t.1.stage

  -- a refusal that the tests of a call find
  pub refused_by : (move : Day → Move) (vs : List ℤ) (r : Refusal) → outcome (refused (number_of r)) (day_in xs) ≡ called move (day_in xs) → plain (number_of r) vs xs ≡ plain_call (called move) vs xs
  refused_by move vs r o = refuses (called move) vs xs t.0 (number_of r) o
