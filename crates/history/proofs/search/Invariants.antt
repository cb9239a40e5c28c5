use mathlib.Core.Path.{◌≡◌}
use Prim.Native.Nat.{◌-◌}
use lib.ListN.{length}
use Rattle.calendar.specs.DayTypes.{day_type}
use Rattle.history.proofs.Searching.{Going}
use Rattle.history.proofs.search.Given as goal

abbrev pub invariant-loop-matches : goal.invariant-loop-matches
invariant-loop-matches g l =
    Going l.calendar.holidays.now l.calendar.day (g.E.Entries.entries l.history) l.sum l.matches l.real l.looked
    × (l.wanted ≡ day_type l.calendar.holidays.now l.calendar.day)

abbrev pub decreases-loop-matches : goal.decreases-loop-matches
decreases-loop-matches g l = length (g.E.Entries.entries l.history) - l.looked
