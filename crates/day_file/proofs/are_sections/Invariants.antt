use mathlib.Core.Path.{◌≡◌}
use Rattle.day_file.specs.Form.{pairs_end}
use Rattle.day_file.proofs.Sections.{Left}
use Rattle.day_file.proofs.are_sections.Given as goal

abbrev pub invariant-loop-i : goal.invariant-loop-i
invariant-loop-i l = Left l.file (pairs_end l.file) 0 ≡ Left l.file l.end l.i
