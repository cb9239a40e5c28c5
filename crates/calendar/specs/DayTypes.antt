-- Document 01, "Calendar": day types, and the call. Assumes nothing.
use Rattle.std.specs.Prelude.{Bool, true, false, not, List, [], ◌∷◌, ◌≡◌, refl, ℕ, ◌%◌, eqb}
use Rattle.numbers.specs.Sums.{pick}
use Rattle.numbers.specs.Lists.{either, has}
use Rattle.numbers.specs.Refusals.{OUT_OF_RANGE}
use Rattle.calendar.specs.Answers.{Answer, given, ◌when◌, tested}
use Rattle.calendar.specs.Days.{calendar_right}
use Rattle.calendar.specs.declared.DayType.{DayType}
use Rattle.calendar.specs.declared.DayType.TheVariants.{Working, Saturday, SundayOrHoliday}

-- the days of the week: day 0 is a Friday
abbrev pub WEEK : ℕ
WEEK = 7

abbrev pub is_saturday : ℕ → Bool
is_saturday d = eqb (d % WEEK) 1

abbrev pub is_sunday : ℕ → Bool
is_sunday d = eqb (d % WEEK) 2

-- "Day types: working; Saturday that is no holiday; Sunday or holiday"
unfoldable pub day_type : List ℕ → ℕ → DayType
day_type hs d =
    pick (either (has d hs) (is_sunday d)) SundayOrHoliday
    (pick (is_saturday d) Saturday Working)

abbrev pub is_working_type : DayType → Bool
is_working_type Working = true
is_working_type Saturday = false
is_working_type SundayOrHoliday = false

-- d is a working day
unfoldable pub is_working : List ℕ → ℕ → Bool
is_working hs d = is_working_type (day_type hs d)

-- two days' types are the same
abbrev pub same_type : DayType → DayType → Bool
same_type Working t = is_working_type t
same_type Saturday Working = false
same_type Saturday Saturday = true
same_type Saturday SundayOrHoliday = false
same_type SundayOrHoliday Working = false
same_type SundayOrHoliday Saturday = false
same_type SundayOrHoliday SundayOrHoliday = true

-- the type of a gas day
unfoldable pub type_call : ℕ → List ℕ → Answer DayType
type_call d hs = tested ((OUT_OF_RANGE when not (calendar_right d hs)) ∷ []) (given (day_type hs d))

-- 6 January 2016 is a Wednesday; 2 January a Saturday, and a holiday on it is no Saturday any more; 3 January a Sunday
plain : day_type [] 5 ≡ Working
unfolding day_type has
plain = refl

epiphany : day_type (1 ∷ 5 ∷ []) 5 ≡ SundayOrHoliday
unfolding day_type has
epiphany = refl

saturday : day_type (5 ∷ []) 1 ≡ Saturday
unfolding day_type has
saturday = refl

holiday_on_saturday : day_type (1 ∷ 5 ∷ []) 1 ≡ SundayOrHoliday
unfolding day_type has
holiday_on_saturday = refl

sunday : day_type [] 2 ≡ SundayOrHoliday
unfolding day_type has
sunday = refl
