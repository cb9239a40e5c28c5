-- A point-day of which a state, cells and revisions are known, written as these parts. Assumes nothing.
use mathlib.Core.Path.{◌≡◌, refl, subst}
use mathlib.Core.List.{List}
use lib.IntN.{ℤ}
use Rattle.point_day.specs.Fields.{point_day, same_fields}
use Rattle.point_day.specs.declared.PointDay.{PointDay}
use Rattle.taken.specs.declared.State.{State}
use Rattle.allot.specs.Allotted.{Has, Allottable}

abbrev pub of_parts : State → List ℤ → List ℤ → List ℤ → List ℤ → PointDay
of_parts s cs ls bs rs = point_day s.stage s.allotted s.measurement s.count s.users cs ls bs rs

module _ {s : State} {cs ls rs : List ℤ} {d : PointDay} where
  pub is_of_parts : Has s cs ls rs d → d ≡ of_parts s cs ls d.balance rs
  is_of_parts h = same_fields (record {
    stage = h.known.stage;
    allotted = h.known.allotted;
    measurement = h.known.measurement;
    count = h.known.count;
    users = h.known.users;
    consumption = h.consumption;
    losses = h.losses;
    balance = refl;
    revision = h.revision;
  })

  pub allottable_parts : Allottable s cs ls rs d → Allottable s cs ls rs (of_parts s cs ls d.balance rs)
  allottable_parts a = subst (Allottable s cs ls rs) (is_of_parts a.has) a
