-- A point-day after allot, as arrays; what its tests find. Assumes nothing. No exported contract leans on it.
use Rattle.std.specs.Prelude.{true, false, List, ◌≡◌, ℕ, ℤ}
use Rattle.point_day.specs.Day.{is_measured}
use Rattle.point_day.specs.Fields.{set_allotted, set_balance}
use Rattle.point_day.specs.Calls.{refused, done, allot}
use Rattle.point_day.specs.Struct.{taken, outcome, called}
use Rattle.point_day.specs.declared.PointDay.{PointDay}
use Rattle.taken.specs.Tested.{Known}
use Rattle.taken.specs.declared.State.{State}

-- the point-day allotted, with the balance cells bs
abbrev pub with_balances : List ℤ → PointDay → PointDay
with_balances bs d = set_allotted true (set_balance bs d)

-- an allot that passes its tests: the call stores the balance cells bs
pub record Allots (bs : List ℤ) (d : PointDay) : Type 0 where
  pub is : outcome done (with_balances bs d) ≡ called allot d
  pub taken : taken d ≡ true

-- what the tests of allot find, 0 or the number of a refusal, is what the call does; they leave the balance cells bs
pub record Tested (bs : List ℤ) (d : PointDay) (r : ℕ) : Type 0 where
  pub passed : r ≡ 0 → Allots bs d
  pub failed : (r ≡ 0 → ⊥) → outcome (refused r) d ≡ called allot d

-- a taken point-day with these cells and revisions, of which `state` is known
pub record Has (state : State) (cs ls rs : List ℤ) (d : PointDay) : Type 0 where
  pub known : Known d state
  pub consumption : d.consumption ≡ cs
  pub losses : d.losses ≡ ls
  pub revision : d.revision ≡ rs

-- the same, entering, measured, and with a user
pub record Allottable (state : State) (cs ls rs : List ℤ) (d : PointDay) : Type 0 where
  pub has : Has state cs ls rs d
  pub entering : d.allotted ≡ false
  pub measured : is_measured d.measurement ≡ true
  pub users : d.count ≡ 0 → ⊥
