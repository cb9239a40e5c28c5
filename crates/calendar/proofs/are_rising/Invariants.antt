use mathlib.Core.Path.{◌≡◌}
use Prim.Native.Nat.{◌-◌}
use lib.ListN.{drop}
use Rattle.numbers.specs.Lists.{both, rising}
use Rattle.calendar.proofs.are_rising.Given as goal

abbrev pub invariant-loop-i : goal.invariant-loop-i
invariant-loop-i l = rising l.numbers ≡ both l.rises (rising (drop (l.i - 1) l.numbers))
