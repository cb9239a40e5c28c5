-- A point-day in 1,094 plain numbers: stage, allotted, measured, emission, downstream emission, count of users, and the arrays. Assumes
-- nothing.
use Rattle.std.specs.Prelude.{Bool, not, List, [], ◌∷◌, ◌++◌, map, ℕ, ◌+◌, leb, eqb, ℤ, pos, nat_abs, length, take, drop, replicate}
use Rattle.numbers.specs.Sums.{pick, bit, atZ}
use Rattle.numbers.specs.Lists.{both, every}
use Rattle.numbers.specs.Amounts.{is_negative}
use Rattle.point_day.specs.Fields.{point_day}
use Rattle.point_day.specs.Limits.{USERS, CELLS, LIMIT, LAST_NUMBER}
use Rattle.point_day.specs.Day.{is_measured}
use Rattle.point_day.specs.declared.PointDay.{PointDay}
use Rattle.point_day.specs.declared.Stage.{Stage}
use Rattle.point_day.specs.declared.Stage.TheVariants.{Provisional, FinalProvisional, FinalDefinitive}
use Rattle.point_day.specs.declared.Measurement.{Measurement}
use Rattle.std.specs.Prelude.{Option, None, Some}
use Rattle.point_day.specs.Day.{metered}

-- where each number stands, where the arrays start, and how many numbers there are
abbrev pub STAGE_AT : ℕ
STAGE_AT = 0

abbrev pub ALLOTTED_AT : ℕ
ALLOTTED_AT = 1

abbrev pub MEASURED_AT : ℕ
MEASURED_AT = 2

abbrev pub EMISSION_AT : ℕ
EMISSION_AT = 3

abbrev pub DOWNSTREAM_AT : ℕ
DOWNSTREAM_AT = 4

abbrev pub COUNT_AT : ℕ
COUNT_AT = 5

abbrev pub USERS_AT : ℕ
USERS_AT = 6

abbrev pub CONSUMPTION_AT : ℕ
CONSUMPTION_AT = USERS_AT + USERS

abbrev pub LOSSES_AT : ℕ
LOSSES_AT = CONSUMPTION_AT + CELLS

abbrev pub BALANCE_AT : ℕ
BALANCE_AT = LOSSES_AT + CELLS

abbrev pub REVISION_AT : ℕ
REVISION_AT = BALANCE_AT + CELLS

abbrev pub LENGTH : ℕ
LENGTH = REVISION_AT + USERS

-- n numbers from a place on
abbrev pub part : {A : Type 0} → ℕ → ℕ → List A → List A
part from n xs = take n (drop from xs)

-- a list put over numbers from place n on
abbrev pub put : {A : Type 0} → ℕ → List A → List A → List A
put n new xs = take n xs ++ new ++ drop (n + length new) xs

-- ---- which numbers a point-day is read from

-- from 0 to m
unfoldable pub up_to : ℕ → ℤ → Bool
up_to m z = both (not (is_negative z)) (leb (nat_abs z) m)

-- both emissions are within their limits, measured or not: "0 to 1,000,000,000, downstream at most emission"
unfoldable pub emissions_readable : ℤ → ℤ → Bool
emissions_readable emission downstream = both (up_to LIMIT emission) (up_to (nat_abs emission) downstream)

-- the six numbers before the users
unfoldable pub head_readable : ℤ → ℤ → ℤ → ℤ → ℤ → ℤ → Bool
head_readable stage allotted measured emission downstream count =
    both (up_to 2 stage)
    (both (up_to 1 allotted) (both (up_to 1 measured) (both (emissions_readable emission downstream) (up_to USERS count))))

unfoldable pub is_readable : List ℤ → Bool
is_readable xs =
    both (eqb (length xs) LENGTH)
    (both (head_readable (atZ xs STAGE_AT) (atZ xs ALLOTTED_AT) (atZ xs MEASURED_AT) (atZ xs EMISSION_AT) (atZ xs DOWNSTREAM_AT) (atZ xs COUNT_AT))
    (every (up_to LAST_NUMBER) (part USERS_AT USERS xs)))

-- ---- the point-day that the numbers stand for

-- 0 provisional, 1 final provisional, 2 final definitive
abbrev pub stage_of : ℕ → Stage
stage_of n = pick (eqb n 0) Provisional (pick (eqb n 1) FinalProvisional FinalDefinitive)

-- both emissions are passed over if not measured
abbrev pub measurement_of : ℕ → ℕ → ℕ → Option Measurement
measurement_of measured emission downstream = pick (eqb measured 0) None (metered emission downstream)

abbrev pub stage_in : List ℤ → Stage
stage_in xs = stage_of (nat_abs (atZ xs STAGE_AT))

abbrev pub allotted_in : List ℤ → Bool
allotted_in xs = eqb (nat_abs (atZ xs ALLOTTED_AT)) 1

abbrev pub measurement_in : List ℤ → Option Measurement
measurement_in xs = measurement_of (nat_abs (atZ xs MEASURED_AT)) (nat_abs (atZ xs EMISSION_AT)) (nat_abs (atZ xs DOWNSTREAM_AT))

abbrev pub count_in : List ℤ → ℕ
count_in xs = nat_abs (atZ xs COUNT_AT)

abbrev pub users_in : List ℤ → List ℕ
users_in xs = map nat_abs (part USERS_AT USERS xs)

unfoldable pub day_in : List ℤ → PointDay
day_in xs =
    point_day (stage_in xs) (allotted_in xs) (measurement_in xs) (count_in xs) (users_in xs) (part CONSUMPTION_AT CELLS xs)
    (part LOSSES_AT CELLS xs) (part BALANCE_AT CELLS xs) (part REVISION_AT USERS xs)

-- ---- the numbers of a point-day

abbrev pub stage_number : Stage → ℕ
stage_number Provisional = 0
stage_number FinalProvisional = 1
stage_number FinalDefinitive = 2

-- an unmeasured point-day leaves a number as it was
abbrev pub emission_number : Option Measurement → ℤ → ℤ
emission_number None z = z
emission_number (Some m) z = pos m.emission

abbrev pub downstream_number : Option Measurement → ℤ → ℤ
downstream_number None z = z
downstream_number (Some m) z = pos m.downstream

-- a point-day stored in the place of the numbers xs
unfoldable pub stored : PointDay → List ℤ → List ℤ
stored d xs =
    (pos (stage_number d.stage)
    ∷ pos (bit d.allotted)
    ∷ pos (bit (is_measured d.measurement))
    ∷ emission_number d.measurement (atZ xs EMISSION_AT)
    ∷ downstream_number d.measurement (atZ xs DOWNSTREAM_AT)
    ∷ pos d.count
    ∷ [])
    ++ map pos d.users ++ d.consumption ++ d.losses ++ d.balance ++ d.revision

-- the numbers of a point-day, both emissions 0 if it is unmeasured
abbrev pub numbers_of : PointDay → List ℤ
numbers_of d = stored d (replicate LENGTH (pos 0))
