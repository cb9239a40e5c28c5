-- `arguments_from_bytes::read_rows` reads onward, row by row. Assumes nothing.
use Rattle.console.proofs.Onward.{onward_none, onward_then}
use Rattle.arguments_from_bytes.proofs.read_rows.Goals as goal

pub loop-i-init : goal.loop-i-init
loop-i-init c = onward_none _

pub returns-in_err-read_row : goal.returns-in_err-read_row
returns-in_err-read_row c = onward_then _ _ _ c.loop-i.invariant c.read_row.ensures

pub loop-i-preserved : goal.loop-i-preserved
loop-i-preserved c = onward_then _ _ _ c.loop-i.invariant c.read_row.ensures
