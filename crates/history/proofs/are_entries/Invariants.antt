use mathlib.Core.Path.{◌≡◌}
use lib.ListN.{drop}
use Rattle.numbers.specs.Lists.{both, every}
use Rattle.history.specs.History.{entry_right}
use Rattle.history.proofs.are_entries.Given as goal

abbrev pub invariant-loop-i : goal.invariant-loop-i
invariant-loop-i g l =
    every entry_right (g.E.Entries.entries l.history) ≡ both l.right (every entry_right (drop l.i (g.E.Entries.entries l.history)))
