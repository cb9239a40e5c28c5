use mathlib.Core.Path.{◌≡◌}
use Prim.Native.Nat.{◌+◌, ◌-◌, ◌≤◌}
use Rattle.calendar.specs.Days.{LAST_DAY}
use Rattle.months.specs.Months.{length_of, start_of}
use Rattle.months.proofs.month_of_day.Given as goal

abbrev pub invariant-loop-first : goal.invariant-loop-first
invariant-loop-first l = (l.first ≡ start_of l.n) × (l.days ≡ length_of l.n) × (l.first ≤ l.day) × (l.day ≤ LAST_DAY)

abbrev pub decreases-loop-first : goal.decreases-loop-first
decreases-loop-first l = l.day + 1 - l.first
