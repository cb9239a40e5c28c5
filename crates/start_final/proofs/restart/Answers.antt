-- `start_final::restart` meets its contract. Assumes nothing.
use Rattle.start_final.proofs.restart.Goals as goal

pub returns : goal.returns
returns c = rw (c.next_stage.ensures, c.repeat.ensures, c.repeat-2.ensures, c.repeat-3.ensures, c.repeat-4.ensures)
