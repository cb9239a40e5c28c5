-- Document 01, "Calendar": months. Assumes nothing.
use Rattle.std.specs.Prelude.{Bool, [], ◌∷◌, ◌≡◌, refl, ℕ, zero, suc, ◌+◌, ◌-◌, ◌/◌, ◌%◌, ltb, eqb}
use Rattle.numbers.specs.Sums.{pick, sum}
use Rattle.numbers.specs.Lists.{has}
use Rattle.months.specs.declared.Month.{Month}

-- the months of a year; the year of gas day 0; the months from January 2016 to December 2099
abbrev pub MONTHS_OF_A_YEAR : ℕ
MONTHS_OF_A_YEAR = 12

abbrev pub FIRST_YEAR : ℕ
FIRST_YEAR = 2016

abbrev pub MONTHS : ℕ
MONTHS = 1008

-- February has 29 days every fourth year, 2016 among them
abbrev pub is_leap : ℕ → Bool
is_leap year = eqb (year % 4) 0

-- how many days a month of a year has, January being month 1
unfoldable pub month_days : ℕ → ℕ → ℕ
month_days year month =
    pick (eqb month 2) (pick (is_leap year) 29 28)
    (pick (has month (4 ∷ 6 ∷ 9 ∷ 11 ∷ [])) 30 31)

-- the months are counted from January 2016, which is month 0
abbrev pub year_of : ℕ → ℕ
year_of n = FIRST_YEAR + n / MONTHS_OF_A_YEAR

abbrev pub number_of : ℕ → ℕ
number_of n = 1 + n % MONTHS_OF_A_YEAR

unfoldable pub length_of : ℕ → ℕ
length_of n = month_days (year_of n) (number_of n)

-- the first day of month n: each month starts where the one before it ends
unfoldable pub start_of : ℕ → ℕ
start_of n = sum length_of n

-- month n, given its first day
abbrev pub month_at : ℕ → ℕ → Month
month_at n first = record { year = year_of n; number = number_of n; first = first; days = length_of n }

-- the month of day d, looked for in k months from month n, which starts on `first`
unfoldable pub month_from : ℕ → ℕ → ℕ → ℕ → Month
month_from zero n first d = month_at n first
month_from (suc k) n first d =
    let later = month_from k (suc n) (first + length_of n) d in
    pick (ltb d (first + length_of n)) (month_at n first) later

-- the month of a gas day
unfoldable pub month_of : ℕ → Month
month_of d = month_from MONTHS 0 0 d

-- N, the days of the same month a year earlier
abbrev pub last_year_days : Month → ℕ
last_year_days m = month_days (m.year - 1) m.number

-- 29 February 2016; 1 March 2017; the last gas day; February of 2016 and of 2017 a year earlier
leap_day : month_of 59 ≡ record { year = 2016; number = 2; first = 31; days = 29 }
unfolding month_of month_from length_of month_days has
leap_day = refl

march : month_of 425 ≡ record { year = 2017; number = 3; first = 425; days = 31 }
unfolding month_of month_from length_of month_days has
march = refl

last : month_of 30680 ≡ record { year = 2099; number = 12; first = 30650; days = 31 }
unfolding month_of month_from length_of month_days has
last = refl

february_2015 : last_year_days (month_of 31) ≡ 28
unfolding month_of month_from length_of month_days has
february_2015 = refl

february_2016 : last_year_days (month_of 397) ≡ 29
unfolding month_of month_from length_of month_days has
february_2016 = refl
