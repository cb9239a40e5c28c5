-- What a line writes into a point-day. Assumes nothing. No exported contract leans on it.
use Rattle.std.specs.Prelude.{Result, Ok, Err, List, true, false, ◌≡◌, ℕ, ◌≤◌, ◌<◌, ℤ}
use Rattle.numbers.specs.Sums.{pick}
use Rattle.point_day.specs.Limits.{CELLS, LIMIT}
use Rattle.point_day.specs.Fields.{set_consumption, set_losses}
use Rattle.point_day.specs.Calls.{refused, losses_added, line}
use Rattle.point_day.specs.Day.{all_offtake}
use Rattle.point_day.specs.Struct.{Sized, read, taken, Outcome, outcome, called}
use Rattle.line.specs.declared.LineEffect.{LineEffect}
use Rattle.numbers.specs.Refusals.{number_of}
use Rattle.numbers.specs.declared.Refusal.{Refusal}
use Rattle.point_day.specs.declared.PointDay.{PointDay}
use Rattle.line.specs.Cell.{line_losses, past_limit, place}
use Rattle.state.specs.Places.{more}

-- other consumption and losses
abbrev pub with_cells : List ℤ → List ℤ → PointDay → PointDay
with_cells cs ls d = set_consumption cs (set_losses ls d)

-- a line on a point-day whose consumption and losses sum to `sum`
abbrev pub lined_at : ℕ → ℕ → ℕ → ℕ → ℕ → PointDay → Outcome
lined_at slot kind c k sum d =
    outcome (pick (past_limit sum c k) (refused 6) (losses_added (line_losses c k)))
    (pick (past_limit sum c k) d
    (with_cells (more (place slot kind) c d.consumption) (more (place slot kind) (line_losses c k) d.losses) d))

-- a line that passes its tests: the call adds c and x at place i
pub record Lines (n kind c k : ℕ) (d : PointDay) (i x : ℕ) : Type 0 where
  pub is : outcome (losses_added x) (with_cells (more i c d.consumption) (more i x d.losses) d) ≡ called (line n kind c k) d
  pub taken : taken d ≡ true
  pub place : i < CELLS
  pub amount : c ≤ LIMIT
  pub added : x ≤ LIMIT

-- what the tests of a line find is what the call does
abbrev pub Tested : ℕ → ℕ → ℕ → ℕ → PointDay → Result LineEffect Refusal → Type 0
Tested n kind c k d (Err r) = outcome (refused (number_of r)) d ≡ called (line n kind c k) d
Tested n kind c k d (Ok e) = Lines n kind c k d e.place e.added

-- a taken point-day that is entering, with these users, of which `count` have joined, and with so much consumption and losses in all
pub record Stands (us : List ℕ) (count offtake : ℕ) (d : PointDay) : Type 0 where
  pub sized : Sized d
  pub is_taken : taken d ≡ true
  pub entering : d.allotted ≡ false
  pub users : d.users ≡ us
  pub joined : d.count ≡ count
  pub sum : offtake ≡ all_offtake (read d).users
