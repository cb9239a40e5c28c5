-- Document 01, "Telemetered": the history and its last three real readings. Assumes nothing.
use Rattle.std.specs.Prelude.{Bool, true, false, List, [], ◌∷◌, ◌++◌, map, ℕ, ◌-◌, leb, eqb, length, get_or, take, Option, None, Some}
use Rattle.numbers.specs.Nearest.{nearest}
use Rattle.numbers.specs.Sums.{pick, total}
use Rattle.numbers.specs.Lists.{both, every}
use Rattle.calendar.specs.DayTypes.{day_type, same_type}
use Rattle.calendar.specs.declared.DayType.{DayType}
use Rattle.supply.specs.Amounts.{in_limit}
use Rattle.history.specs.declared.Reading.{Reading}
use Rattle.history.specs.declared.Reading.TheVariants.{Nothing, Real, Estimated, Own}
use Rattle.history.specs.declared.Entry.{Entry}

-- "The history has 0 to 400 entries"
abbrev pub ENTRIES : ℕ
ENTRIES = 400

-- "An entry is nothing, real, estimated or user's own, the last three with a value from 0 to 1,000,000,000"
abbrev pub reading_right : Reading → Bool
reading_right Nothing = true
reading_right (Real v) = in_limit v
reading_right (Estimated v) = in_limit v
reading_right (Own v) = in_limit v

-- a reading's value, or 0
abbrev pub value_of : Reading → ℕ
value_of Nothing = 0
value_of (Real v) = v
value_of (Estimated v) = v
value_of (Own v) = v

abbrev pub entry_right : Entry → Bool
entry_right e = reading_right e.reading

-- a history of n entries for gas day d: "no more than the day number", each value in range; what stands past them is not looked at
unfoldable pub history_right : ℕ → ℕ → List Entry → Bool
history_right d n es = both (both (leb n ENTRIES) (leb n d)) (every entry_right (take n es))

abbrev pub is_empty : {A : Type 0} → List A → Bool
is_empty [] = true
is_empty (x ∷ xs) = false

-- an entry with its day
pub record Dated : Type 0 where
  pub day : ℕ
  pub reading : Reading

-- "nearest day first": the first entry is of the day before d
unfoldable pub dated : ℕ → List Entry → List Dated
dated d [] = []
dated d (e ∷ es) = record { day = d - 1; reading = e.reading } ∷ dated (d - 1) es

-- a real reading: its day and its value
pub record RealReading : Type 0 where
  pub day : ℕ
  pub value : ℕ

-- that of an entry of day d, if it is one
abbrev pub real_of : ℕ → Reading → List RealReading
real_of d Nothing = []
real_of d (Real v) = record { day = d; value = v } ∷ []
real_of d (Estimated v) = []
real_of d (Own v) = []

-- the real readings of a history
unfoldable pub real_readings : List Dated → List RealReading
real_readings [] = []
real_readings (x ∷ xs) = real_of x.day x.reading ++ real_readings xs

-- those on days of a type
unfoldable pub matching : List ℕ → DayType → List RealReading → List RealReading
matching hs t [] = []
matching hs t (m ∷ ms) = pick (same_type (day_type hs m.day) t) (m ∷ matching hs t ms) (matching hs t ms)

-- "the last three real readings on days of the gas day's type"
abbrev pub MATCHES : ℕ
MATCHES = 3

unfoldable pub last_three : List ℕ → ℕ → List Dated → List RealReading
last_three hs d xs = take MATCHES (matching hs (day_type hs d) (real_readings xs))

-- the sum of their values
unfoldable pub sum_of : List RealReading → ℕ
sum_of ms = total (map (λ m. m.value) ms)

-- their mean; "One or two matches: their mean"
unfoldable pub mean_value : List RealReading → ℕ
mean_value ms = nearest (sum_of ms) (length ms)

-- "The search .. stops at the third match or at the end": how many of n entries it looks at
unfoldable pub looked_at : ℕ → ℕ → List RealReading → ℕ
looked_at d n ms = pick (eqb (length ms) MATCHES) (d - (get_or ms (MATCHES - 1) (record { day = 0; value = 0 })).day) n

-- "A consumer is new if its history holds no real entry"
unfoldable pub is_new : List Dated → Bool
is_new xs = is_empty (real_readings xs)

-- the value of a real reading: no other counts
abbrev pub real_value : Reading → Option ℕ
real_value Nothing = None
real_value (Real v) = Some v
real_value (Estimated v) = None
real_value (Own v) = None
