-- Document 01, "Type 2": consumption and profile. Assumes nothing.
use Rattle.std.specs.Prelude.{Bool, not, List, [], ◌∷◌, ◌≡◌, refl, ℕ, ◌+◌, ◌*◌, leb, ltb, eqb, replicate}
use Rattle.numbers.specs.Nearest.{nearest}
use Rattle.numbers.specs.Sums.{total}
use Rattle.numbers.specs.Lists.{both, every}
use Rattle.numbers.specs.Refusals.{OUT_OF_RANGE, ABOVE_LIMIT, NO_BASIS}
use Rattle.calendar.specs.Answers.{Answer, given, ◌when◌, tested}
use Rattle.temperature.specs.Temperature.{times, divided, rounded, FEWEST_DAYS, MOST_DAYS, is_degrees, mean, correction, C_temp2, winters_mean, winter_right, winters_right}
use Rattle.supply.specs.Amounts.{limited}

-- "Consumers 0 to 10,000,000"
abbrev pub MOST_CONSUMERS : ℕ
MOST_CONSUMERS = 10000000

-- "profile 0 to 10^12 Wh"
abbrev pub MOST_PROFILE : ℕ
MOST_PROFILE = 1000000000000

-- "consumers times profile at most 10^12"
abbrev pub MOST_PRODUCT : ℕ
MOST_PRODUCT = 1000000000000

-- "F month consumption 0 to 10^12"
abbrev pub MOST_MONTH : ℕ
MOST_MONTH = 1000000000000

-- the Wh of a kWh
abbrev pub KILO : ℕ
KILO = 1000

-- ---- consumption

unfoldable pub type_2_right : ℕ → ℕ → ℕ → ℕ → List ℕ → List ℕ → Bool
type_2_right consumers profile g k first second =
    both (leb consumers MOST_CONSUMERS)
    (both (leb profile MOST_PROFILE) (both (is_degrees g) (winters_right k first second)))

-- "Consumers × profile × C_temp2 / 1,000, in kWh .. consumers times profile at most 10^12, else 6"
unfoldable pub type_2 : ℕ → ℕ → ℕ → ℕ → List ℕ → List ℕ → Answer ℕ
type_2 consumers profile g k first second =
    tested
    ((OUT_OF_RANGE when not (type_2_right consumers profile g k first second))
    ∷ (ABOVE_LIMIT when ltb MOST_PRODUCT (consumers * profile))
    ∷ [])
    (limited (rounded (divided (times (consumers * profile) (C_temp2 g k first second)) KILO)))

-- ---- profile

-- "F month consumption 0 to 10^12, NC consumers 0 to 10,000,000, N days 28 to 31": one year's figures
unfoldable pub year_right : ℕ → ℕ → ℕ → Bool
year_right f nc n = both (leb f MOST_MONTH) (both (leb nc MOST_CONSUMERS) (both (leb FEWEST_DAYS n) (leb n MOST_DAYS)))

-- "nearest of 1,000 × (F1 + F2) / ((NC1 + NC2) × (N1 + N2)) .. no consumers gives 15"
unfoldable pub profile : ℕ → ℕ → ℕ → ℕ → ℕ → ℕ → Answer ℕ
profile f1 f2 nc1 nc2 n1 n2 =
    tested
    ((OUT_OF_RANGE when not (both (year_right f1 nc1 n1) (year_right f2 nc2 n2)))
    ∷ (NO_BASIS when eqb (nc1 + nc2) 0)
    ∷ [])
    (given (nearest (KILO * (f1 + f2)) ((nc1 + nc2) * (n1 + n2))))

-- the rounded answer is held to the limit: 1,000,000,000.0005 kWh is 10^9, and not too large
at_the_limit : type_2 1 996884735203 161 1 (replicate 28 160) [] ≡ given 1000000000
unfolding type_2 type_2_right winters_right winter_right every winters_mean correction mean total limited tested nearest
at_the_limit = refl

-- the largest profile
largest : profile MOST_MONTH MOST_MONTH 1 0 28 28 ≡ given 35714285714286
unfolding profile year_right tested nearest
largest = refl
