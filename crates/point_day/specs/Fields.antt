-- A point-day with another value in one field, and the law that equal fields make equal point-days. What a call writes is composed of
-- these. Assumes nothing.
use Rattle.std.specs.Prelude.{Bool, List, ◌≡◌, ℕ, ℤ}
use Rattle.point_day.specs.declared.Stage.{Stage}
use Rattle.point_day.specs.declared.Measurement.{Measurement}
use Rattle.point_day.specs.declared.PointDay.{PointDay}
use Rattle.std.specs.Prelude.{Option}

-- a point-day of its fields
abbrev pub point_day : Stage → Bool → Option Measurement → ℕ → List ℕ → List ℤ → List ℤ → List ℤ → List ℤ → PointDay
point_day stage allotted m n us cs ls bs rs = record {
  stage = stage;
  allotted = allotted;
  measurement = m;
  count = n;
  users = us;
  consumption = cs;
  losses = ls;
  balance = bs;
  revision = rs;
}

abbrev pub set_stage : Stage → PointDay → PointDay
set_stage x d =
    point_day x d.allotted d.measurement d.count d.users d.consumption d.losses d.balance d.revision

abbrev pub set_allotted : Bool → PointDay → PointDay
set_allotted x d =
    point_day d.stage x d.measurement d.count d.users d.consumption d.losses d.balance d.revision

abbrev pub set_measurement : Option Measurement → PointDay → PointDay
set_measurement x d =
    point_day d.stage d.allotted x d.count d.users d.consumption d.losses d.balance d.revision

abbrev pub set_count : ℕ → PointDay → PointDay
set_count x d =
    point_day d.stage d.allotted d.measurement x d.users d.consumption d.losses d.balance d.revision

abbrev pub set_users : List ℕ → PointDay → PointDay
set_users x d =
    point_day d.stage d.allotted d.measurement d.count x d.consumption d.losses d.balance d.revision

abbrev pub set_consumption : List ℤ → PointDay → PointDay
set_consumption x d =
    point_day d.stage d.allotted d.measurement d.count d.users x d.losses d.balance d.revision

abbrev pub set_losses : List ℤ → PointDay → PointDay
set_losses x d =
    point_day d.stage d.allotted d.measurement d.count d.users d.consumption x d.balance d.revision

abbrev pub set_balance : List ℤ → PointDay → PointDay
set_balance x d =
    point_day d.stage d.allotted d.measurement d.count d.users d.consumption d.losses x d.revision

abbrev pub set_revision : List ℤ → PointDay → PointDay
set_revision x d =
    point_day d.stage d.allotted d.measurement d.count d.users d.consumption d.losses d.balance x

-- equal fields, by name
pub record SameFields (d e : PointDay) : Type 0 where
  pub stage : d.stage ≡ e.stage
  pub allotted : d.allotted ≡ e.allotted
  pub measurement : d.measurement ≡ e.measurement
  pub count : d.count ≡ e.count
  pub users : d.users ≡ e.users
  pub consumption : d.consumption ≡ e.consumption
  pub losses : d.losses ≡ e.losses
  pub balance : d.balance ≡ e.balance
  pub revision : d.revision ≡ e.revision

pub same_fields : {d e : PointDay} → SameFields d e → d ≡ e
same_fields h = λ i.
    point_day (h.stage i) (h.allotted i) (h.measurement i) (h.count i) (h.users i) (h.consumption i) (h.losses i) (h.balance i)
    (h.revision i)
