-- What a call answers: document 01's number of a refusal, or the values that it names; and what the code's answers stand for. Assumes nothing.
use Rattle.std.specs.Prelude.{ℕ, ℤ, Result, Ok, Err}
use Rattle.numbers.specs.Refusals.{number_of}
use Rattle.numbers.specs.declared.Refusal.{Refusal}
use Rattle.point_day.specs.declared.Accepted as code
use Rattle.point_day.specs.declared.Accepted.TheVariants as is

-- the number of a refusal, or the values that document 01 names
pub data Answer : Type 0 where
  refused : ℕ → Answer
  done : Answer
  losses_added : ℕ → Answer
  rows_looked_at : ℕ → Answer
  within_tolerance : ℤ → Answer
  revision_assigned : ℤ → Answer

-- what each case of the code's enum of accepted calls stands for
abbrev pub values_of : code.Accepted → Answer
values_of is.Done = done
values_of (is.LossesAdded l) = losses_added l
values_of (is.RowsLookedAt k) = rows_looked_at k
values_of (is.WithinTolerance R) = within_tolerance R
values_of (is.RevisionAssigned R) = revision_assigned R

-- what the code's answer stands for
abbrev pub answer_of : Result code.Accepted Refusal → Answer
answer_of (Err r) = refused (number_of r)
answer_of (Ok a) = values_of a

-- what an answer by number stands for
abbrev pub numbered : Result code.Accepted ℕ → Answer
numbered (Err n) = refused n
numbered (Ok a) = values_of a
