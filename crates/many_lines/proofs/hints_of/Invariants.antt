use mathlib.Core.Path.{◌≡◌}
use lib.ListN.{length}
use Rattle.many_lines.specs.Many.{HINTS}
use Rattle.many_lines.proofs.hints_of.Given as goal

abbrev pub invariant-loop-i : goal.invariant-loop-i
invariant-loop-i l = length l.hints ≡ HINTS
