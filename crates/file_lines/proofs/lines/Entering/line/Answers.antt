-- `file_lines::lines::Entering::line` meets its contract: an entry that is right is in its ranges. Assumes nothing.
use Rattle.std.proofs.Common.{sym}
use Rattle.line.proofs.cells.Ranges.{ranges}
use Rattle.file_lines.proofs.lines.Entering.line.Goals as goal

pub line_cell-requires-clause-slot_bound : goal.line_cell-requires-clause-slot_bound
line_cell-requires-clause-slot_bound c =
    let e = c.args.entry in
    let r = ranges e.user e.kind e.consumption e.coefficient (sym c.if-not-is_right.ensures) in
    (c.requires.0, r.low, r.high, r.consumption, r.coefficient, c.requires.1)
