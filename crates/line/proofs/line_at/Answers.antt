-- `line::line_at` meets its contract. Assumes nothing.
use Rattle.line.proofs.line_at.Goals as goal

pub returns : goal.returns
returns c = rw (c.add_at.ensures, c.add_at-2.ensures)
