use Rattle.file_lines.proofs.SectionSteps.{Sections}
use Rattle.file_lines.proofs.lines.Entering.sections.Given as goal

abbrev pub invariant-loop-i : goal.invariant-loop-i
invariant-loop-i l = Sections l.file.bytes.now l.initial.self l.self l.i
