use Rattle.file_lines.proofs.SectionSteps.{Lines}
use Rattle.file_lines.proofs.lines.Entering.section.Given as goal

abbrev pub invariant-loop-j : goal.invariant-loop-j
invariant-loop-j l = Lines l.file.bytes.now l.section l.i l.fn.self l.self l.offtake l.j
