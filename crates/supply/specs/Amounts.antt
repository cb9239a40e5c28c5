-- Document 01, "Consumption of a supply point": amounts that may be missing, contracted flows, and the limit of a computed consumption. Assumes nothing.
use Rattle.std.specs.Prelude.{Bool, true, [], ◌∷◌, ℕ, leb, ltb, Option, None, Some}
use Rattle.numbers.specs.Lists.{both}
use Rattle.numbers.specs.Refusals.{ABOVE_LIMIT}
use Rattle.calendar.specs.Answers.{Answer, given, ◌when◌, tested}
use Rattle.supply.specs.declared.Flows.{Flows}

-- "month consumption and flows run from 0 to 1,000,000,000", and so do readings and computed consumptions
abbrev pub LIMIT : ℕ
LIMIT = 1000000000

abbrev pub in_limit : ℕ → Bool
in_limit v = leb v LIMIT

-- "each may be missing"
abbrev pub amount_right : Option ℕ → Bool
amount_right None = true
amount_right (Some v) = in_limit v

-- f_c and C_f are thousandths, 0 to 1,000; C_c is ten-thousandths, 0 to 30,000
abbrev pub THOUSAND : ℕ
THOUSAND = 1000

abbrev pub TEN_THOUSAND : ℕ
TEN_THOUSAND = 10000

abbrev pub MOST_C_c : ℕ
MOST_C_c = 30000

-- Q_a, Q_d and f_c
unfoldable pub flows_right : Flows → Bool
flows_right f = both (amount_right f.yearly) (both (amount_right f.daily) (leb f.factor THOUSAND))

-- a computed consumption: refused above the limit, by its rounded value
unfoldable pub limited : ℕ → Answer ℕ
limited v = tested ((ABOVE_LIMIT when ltb LIMIT v) ∷ []) (given v)
