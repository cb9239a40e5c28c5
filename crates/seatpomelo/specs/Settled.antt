-- What a call for programs in other languages gives back: a status, and values through pointers. Assumes nothing.
use Rattle.std.specs.Prelude.{Result, Ok, Err, List, [], ◌∷◌, ℕ, ℤ, nat_abs}
use Rattle.numbers.specs.declared.Refusal.{Refusal}
use Rattle.calendar.specs.Answers.{Answer, refused, given}
use Rattle.months.specs.declared.MonthFigures.{MonthFigures}
use Rattle.zones.specs.declared.Province.{Province}
use Rattle.telemetered.specs.declared.Estimate.{Estimate}
use Rattle.calendar.specs.declared.DayType.{DayType}
use Rattle.calendar.specs.declared.DayType.TheVariants.{Working, Saturday, SundayOrHoliday}

-- the status, and the numbers behind the pointers afterwards
pub record Settled : Type 0 where
  pub status : ℕ
  pub values : List ℕ

abbrev pub settled : ℕ → List ℕ → Settled
settled n vs = record { status = n; values = vs }

-- 0 and the values of an answer; or the documents' number of a refusal, and the numbers that were there before
abbrev pub settles : {A : Type 0} → (A → List ℕ) → Answer A → List ℕ → Settled
settles values (refused n) before = settled n before
settles values (given a) before = settled 0 (values a)

-- the value of an accepted call, or what was there before
abbrev pub value_or : {A : Type 0} → Result A Refusal → A → A
value_or (Ok a) before = a
value_or (Err r) before = before

-- ---- the values of answers

abbrev pub number : ℕ → List ℕ
number n = n ∷ []

abbrev pub size : ℤ → List ℕ
size z = nat_abs z ∷ []

-- 0 working, 1 Saturday, 2 Sunday or holiday
abbrev pub type_number : DayType → List ℕ
type_number Working = 0 ∷ []
type_number Saturday = 1 ∷ []
type_number SundayOrHoliday = 2 ∷ []

-- first day, days, mask of the working days, N_lab
abbrev pub month_numbers : MonthFigures → List ℕ
month_numbers m = m.first ∷ m.days ∷ m.mask ∷ m.working ∷ []

abbrev pub province_numbers : Province → List ℕ
province_numbers p = p.mean ∷ p.zone ∷ []

-- consumption, and the entries looked at
abbrev pub estimate_numbers : Estimate → List ℕ
estimate_numbers e = e.kwh ∷ e.looked ∷ []
