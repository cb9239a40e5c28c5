-- Document 01, "Calendar": the working days of a month, and the call. Assumes nothing.
use Rattle.std.specs.Prelude.{not, List, [], ◌∷◌, ◌≡◌, refl, ℕ, ◌+◌, ◌-◌, ◌*◌, ◌%◌, ◌^◌}
use Rattle.std.specs.Int.Count.{ones_in}
use Rattle.numbers.specs.Sums.{bit, sum}
use Rattle.numbers.specs.Lists.{has}
use Rattle.numbers.specs.Refusals.{OUT_OF_RANGE}
use Rattle.calendar.specs.Answers.{Answer, given, ◌when◌, tested}
use Rattle.calendar.specs.Days.{calendar_right}
use Rattle.calendar.specs.DayTypes.{day_type, is_working}
use Rattle.months.specs.Months.{month_days, length_of, month_from, month_of}
use Rattle.months.specs.declared.Month.{Month}
use Rattle.months.specs.declared.MonthFigures.{MonthFigures}

-- "The working days of a month are a mask, bit 0 for the first"
unfoldable pub working_mask : List ℕ → Month → ℕ
working_mask hs m = sum (λ i. bit (is_working hs (m.first + i)) * 2 ^ i) m.days

-- "N_lab is how many ones the mask has", in its 32 binary digits
abbrev pub MASK_BITS : ℕ
MASK_BITS = 32

unfoldable pub N_lab : List ℕ → Month → ℕ
N_lab hs m = ones_in MASK_BITS (working_mask hs m)

-- "N_res = N − N_lab"
unfoldable pub N_res : List ℕ → Month → ℕ
N_res hs m = m.days - N_lab hs m

-- the month of a gas day: its first day, its days, the mask of its working days, and N_lab
unfoldable pub month_call : ℕ → List ℕ → Answer MonthFigures
month_call d hs =
    let m = month_of d in
    tested ((OUT_OF_RANGE when not (calendar_right d hs)) ∷ [])
    (given (record { first = m.first; days = m.days; mask = working_mask hs m; working = N_lab hs m }))

-- June 2016 without holidays has 22 working days, the first three Wednesday to Friday
june_2016 : working_mask [] (month_of 152) % 32 ≡ 7
unfolding month_of month_from length_of month_days has working_mask is_working day_type sum
june_2016 = refl

june_2016_working : N_lab [] (month_of 152) ≡ 22
unfolding month_of month_from length_of month_days has working_mask is_working day_type sum N_lab ones_in
june_2016_working = refl
