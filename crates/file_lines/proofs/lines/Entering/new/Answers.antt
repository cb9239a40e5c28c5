-- `file_lines::lines::Entering::new` meets its contract. Assumes nothing.
use Rattle.file_lines.proofs.lines.Entering.new.Goals as goal

pub returns : goal.returns
returns c = λ j. record { users = c.repeat.ensures j; consumption = c.repeat-2.ensures j; losses = c.repeat-3.ensures j; offtake = 0 }
