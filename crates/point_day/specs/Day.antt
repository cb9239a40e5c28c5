-- Document 01, section "The point-day": the day and its users, net emission, whole amounts. Assumes nothing.
use Rattle.std.specs.Prelude.{Bool, true, false, not, List, [], ◌∷◌, map, ℕ, ◌+◌, ◌-◌, leb, eqb, ℤ, pos, nat_abs, ◌+ℤ◌, replicate}
use Rattle.numbers.specs.Sums.{total, totalZ}
use Rattle.numbers.specs.Lists.{both, every}
use Rattle.point_day.specs.Limits.{LIMIT, AMOUNT, KINDS, LAST_NUMBER}
use Rattle.point_day.specs.declared.Stage.{Stage}
use Rattle.point_day.specs.declared.Stage.TheVariants.{Provisional, FinalProvisional, FinalDefinitive}
use Rattle.point_day.specs.declared.Measurement.{Measurement}
use Rattle.std.specs.Prelude.{Option, None, Some}

-- "For each user and each of five kinds it holds consumption, losses and balance, .. and for each user a revision"
pub record User : Type 0 where
  pub number : ℕ
  pub consumption : List ℕ
  pub losses : List ℕ
  pub balance : List ℤ
  pub revision : ℤ

-- a stage "is first entering, then allotted"; users stand in the order in which they joined
pub record Day : Type 0 where
  pub stage : Stage
  pub allotted : Bool
  pub measurement : Option Measurement
  pub users : List User

-- "Fresh is provisional, entering, empty, unmeasured"
unfoldable pub fresh : Day
fresh = record { stage = Provisional; allotted = false; measurement = None; users = [] }

-- a pair of a stand-in's row
pub record Pair : Type 0 where
  pub user : ℕ
  pub amount : ℤ

-- ---- a day, or a user, with another value in one field

abbrev pub with_stage : Stage → Day → Day
with_stage x d = record { stage = x; allotted = d.allotted; measurement = d.measurement; users = d.users }

abbrev pub with_allotted : Bool → Day → Day
with_allotted x d = record { stage = d.stage; allotted = x; measurement = d.measurement; users = d.users }

abbrev pub with_measurement : Option Measurement → Day → Day
with_measurement x d = record { stage = d.stage; allotted = d.allotted; measurement = x; users = d.users }

abbrev pub with_users : List User → Day → Day
with_users x d = record { stage = d.stage; allotted = d.allotted; measurement = d.measurement; users = x }

-- a user of its fields
abbrev pub user : ℕ → List ℕ → List ℕ → List ℤ → ℤ → User
user n cs ls bs r = record { number = n; consumption = cs; losses = ls; balance = bs; revision = r }

abbrev pub with_consumption : List ℕ → User → User
with_consumption x u = user u.number x u.losses u.balance u.revision

abbrev pub with_losses : List ℕ → User → User
with_losses x u = user u.number u.consumption x u.balance u.revision

abbrev pub with_balance : List ℤ → User → User
with_balance x u = user u.number u.consumption u.losses x u.revision

abbrev pub with_revision : ℤ → User → User
with_revision x u = user u.number u.consumption u.losses u.balance x

-- a user with no amounts
abbrev pub empty_user : ℕ → User
empty_user n = user n (replicate KINDS 0) (replicate KINDS 0) (replicate KINDS (pos 0)) (pos 0)

abbrev pub numbers : List User → List ℕ
numbers us = map (λ (u : User). u.number) us

-- a user's consumption plus losses over all kinds, and those of all users
abbrev pub offtake : User → ℕ
offtake u = total u.consumption + total u.losses

abbrev pub all_offtake : List User → ℕ
all_offtake us = total (map offtake us)

-- "Whole amount: a user's consumption, losses and balance over all kinds, plus revision"
abbrev pub whole : User → ℤ
whole u = pos (offtake u) +ℤ (totalZ u.balance +ℤ u.revision)

-- everything allotted
abbrev pub all_whole : List User → ℤ
all_whole us = totalZ (map whole us)

-- a measurement of so much emission and downstream emission
abbrev pub metered : ℕ → ℕ → Option Measurement
metered emission downstream = Some (record { emission = emission; downstream = downstream })

-- "Net is the difference" of emission and downstream emission; 0 if unmeasured, which no call then uses
abbrev pub net_of : Option Measurement → ℤ
net_of None = pos 0
net_of (Some m) = pos (m.emission - m.downstream)

abbrev pub net : Day → ℤ
net d = net_of d.measurement

abbrev pub is_measured : Option Measurement → Bool
is_measured None = false
is_measured (Some m) = true

-- some element is there
abbrev pub some : {A : Type 0} → List A → Bool
some [] = false
some (x ∷ xs) = true

-- ---- ranges

-- at most m in size
abbrev pub no_more : ℕ → ℤ → Bool
no_more m z = leb (nat_abs z) m

abbrev pub is_zero : ℤ → Bool
is_zero z = eqb (nat_abs z) 0

-- "numbered 1 to 65,535"
abbrev pub is_number : ℕ → Bool
is_number n = both (leb 1 n) (leb n LAST_NUMBER)

-- "emission and downstream emission, 0 to 1,000,000,000, downstream at most emission"
abbrev pub emission_right : ℕ → ℕ → Bool
emission_right emission downstream = both (leb emission LIMIT) (leb downstream emission)

abbrev pub measurement_right : Option Measurement → Bool
measurement_right None = true
measurement_right (Some m) = emission_right m.emission m.downstream

-- refusal 12: "a whole amount would pass 2,000,000,000 in size"
abbrev pub too_large : List User → Bool
too_large us = not (every (λ u. no_more AMOUNT (whole u)) us)

-- ---- stages: "in order: provisional, final provisional, final definitive"

abbrev pub provisional : Stage → Bool
provisional Provisional = true
provisional FinalProvisional = false
provisional FinalDefinitive = false

abbrev pub last_stage : Stage → Bool
last_stage Provisional = false
last_stage FinalProvisional = false
last_stage FinalDefinitive = true

abbrev pub next : Stage → Stage
next Provisional = FinalProvisional
next FinalProvisional = FinalDefinitive
next FinalDefinitive = FinalDefinitive
