-- Document 01, "Type 1". Assumes nothing.
use Rattle.std.specs.Prelude.{Bool, true, not, List, [], ◌∷◌, ◌≡◌, refl, Option, ℕ, ◌*◌, leb, eqb, length, replicate}
use Rattle.numbers.specs.Sums.{pick}
use Rattle.numbers.specs.Lists.{both, every, has}
use Rattle.numbers.specs.Refusals.{OUT_OF_RANGE}
use Rattle.calendar.specs.Answers.{Answer, ◌when◌, tested}
use Rattle.calendar.specs.Days.{is_gas_day, calendar_right}
use Rattle.calendar.specs.DayTypes.{is_working}
use Rattle.months.specs.Months.{month_days, length_of, month_from, month_of, last_year_days}
use Rattle.months.specs.WorkingDays.{N_lab, N_res}
use Rattle.months.specs.declared.Month.{Month}
use Rattle.type_1.specs.MonthConsumption.{month_34, month_other}
use Rattle.type_1.specs.DayShare.{day_of, part_of}
use Rattle.temperature.specs.Temperature.{is_degrees, C_temp1}
use Rattle.supply.specs.Amounts.{THOUSAND, MOST_C_c, amount_right}

-- ---- toll 3.4

-- "the days of last year's month, as many as that month has"
unfoldable pub last_days_right : ℕ → List ℕ → Bool
last_days_right d ds = both (eqb (length ds) (last_year_days (month_of d))) (every is_degrees ds)

unfoldable pub toll_34_right : ℕ → Option ℕ → ℕ → List ℕ → Option ℕ → Option ℕ → Bool
toll_34_right d last_year g ds last_month q =
    both (is_gas_day d)
    (both (both (amount_right last_year) (both (amount_right last_month) (amount_right q)))
    (both (is_degrees g) (last_days_right d ds)))

-- "Toll 3.4: C_d = C_m / N"
unfoldable pub toll_34 : ℕ → Option ℕ → ℕ → List ℕ → Option ℕ → Option ℕ → Answer ℕ
toll_34 d last_year g ds last_month q =
    tested ((OUT_OF_RANGE when not (toll_34_right d last_year g ds last_month q)) ∷ [])
    (day_of (month_34 last_year (C_temp1 g ds) last_month q) 1 (month_of d).days)

-- ---- other tolls

unfoldable pub other_right : ℕ → List ℕ → Option ℕ → ℕ → Option ℕ → Option ℕ → ℕ → ℕ → Bool
other_right d hs last_year cc last_month q fc cf =
    both (calendar_right d hs)
    (both (both (amount_right last_year) (both (amount_right last_month) (amount_right q)))
    (both (leb cc MOST_C_c) (both (leb fc THOUSAND) (leb cf THOUSAND))))

-- the days that share a part of C_m: the working days, or the others
abbrev pub sharing : Bool → List ℕ → Month → ℕ
sharing working hs m = pick working (N_lab hs m) (N_res hs m)

-- "Others: C_m × C_f / N_lab on working days, C_m × (1 − C_f) / N_res on all others"
unfoldable pub other_toll : ℕ → List ℕ → Option ℕ → ℕ → Option ℕ → Option ℕ → ℕ → ℕ → Answer ℕ
other_toll d hs last_year cc last_month q fc cf =
    let m = month_of d in
    tested ((OUT_OF_RANGE when not (other_right d hs last_year cc last_month q fc cf)) ∷ [])
    (day_of (month_other last_year cc last_month q fc m.days) (part_of (is_working hs d) cf) (THOUSAND * sharing (is_working hs d) hs m))

-- ---- cases

-- "the days of last year's month": 1 February 2016 asks for the 28 days of February 2015, 1 February 2017 for the 29 of 2016
february_2016 : last_days_right 31 (replicate 28 0) ≡ true
unfolding last_days_right month_of month_from length_of month_days has every
february_2016 = refl

february_2017 : last_days_right 397 (replicate 29 0) ≡ true
unfolding last_days_right month_of month_from length_of month_days has every
february_2017 = refl
