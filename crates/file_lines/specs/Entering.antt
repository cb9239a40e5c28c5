-- While a day file is entered: the point-day that its arrays stand for, how the lines of a section enter it, and those of all sections.
-- Assumes nothing. No exported contract leans on it.
use Rattle.std.specs.Prelude.{◌≡◌, true, false, List, ◌++◌, ℕ, ℤ, pos, length, replicate, Result, Ok, Err}
use Rattle.numbers.specs.Refusals.{number_of}
use Rattle.numbers.specs.declared.Refusal.{Refusal}
use Rattle.point_day.specs.Limits.{USERS, CELLS}
use Rattle.point_day.specs.Fields.{point_day}
use Rattle.point_day.specs.Day.{all_offtake, measurement_right}
use Rattle.point_day.specs.Struct.{read, taken}
use Rattle.point_day.specs.declared.Stage.TheVariants.{Provisional}
use Rattle.point_day.specs.declared.Measurement.{Measurement}
use Rattle.point_day.specs.declared.PointDay.{PointDay}
use Rattle.day_book.specs.Run.{Call}
use Rattle.day_file.specs.Report.{refused, in_order}
use Rattle.file_lines.specs.declared.lines.Entering.{Entering}
use Rattle.std.specs.Prelude.{Option, None}

-- the point-day of n users, their numbers, consumption and losses, with a measurement and nothing allotted yet
unfoldable pub entering : ℕ → List ℕ → List ℤ → List ℤ → Option Measurement → PointDay
entering n us cs ls m = point_day Provisional false m n us cs ls (replicate CELLS (pos 0)) (replicate USERS (pos 0))

-- with any measurement in range it is taken, and its consumption and losses sum to `offtake`
pub record Entered (n : ℕ) (us : List ℕ) (cs ls : List ℤ) (offtake : ℕ) : Type 0 where
  pub users : length us ≡ USERS
  pub consumption : length cs ≡ CELLS
  pub losses : length ls ≡ CELLS
  pub taken : (m : Option Measurement) → measurement_right m ≡ true → taken (entering n us cs ls m) ≡ true
  pub sum : offtake ≡ all_offtake (read (entering n us cs ls None)).users

-- the same of the arrays, with a sum beside them or with their own
abbrev pub day_of : Entering → ℕ → Option Measurement → PointDay
day_of e n = entering n e.users e.consumption e.losses

abbrev pub HoldsAt : ℕ → Entering → ℕ → Type 0
HoldsAt n e offtake = Entered n e.users e.consumption e.losses offtake

abbrev pub Holds : ℕ → Entering → Type 0
Holds n e = HoldsAt n e e.offtake

-- what an answer promises where it is no refusal
abbrev pub UnlessRefused : {A : Type 0} → Result A Refusal → Type 0 → Type 0
UnlessRefused (Err r) P = Unit {0}
UnlessRefused (Ok x) P = P

-- what calls come to on a point-day, whatever its measurement and the calls after them
abbrev pub ComesTo : {A : Type 0} → Result A Refusal → List Call → (Option Measurement → PointDay) → (Option Measurement → PointDay) → Type 0
ComesTo (Err r) calls before after = (day : ℕ) (m : Option Measurement) (rest : List Call) → measurement_right m ≡ true
    → in_order day (calls ++ rest) (before m) ≡ refused (number_of r)
ComesTo (Ok x) calls before after = (day : ℕ) (m : Option Measurement) (rest : List Call) → measurement_right m ≡ true
    → in_order day (calls ++ rest) (before m) ≡ in_order day rest (after m)

-- ---- a measured point-day without users

unfoldable pub unjoined : Option Measurement → PointDay
unjoined m = entering 0 (replicate USERS 0) (replicate CELLS (pos 0)) (replicate CELLS (pos 0)) m
