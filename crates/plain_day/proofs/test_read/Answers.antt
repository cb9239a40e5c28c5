-- `plain_day::test_read` meets its contract: its parts are those of the point-day. Assumes nothing.
use Rattle.plain_day.specs.Layout.{day_in}
use Rattle.plain_day.proofs.test_read.Goals as goal

pub returns : goal.returns
unfolding day_in
returns c = rw (c.stage_in.ensures, c.allotted_in.ensures, c.measurement_in.ensures, c.count_in.ensures, c.requires.1, c.amounts_in.ensures.0, c.amounts_in.ensures.1, c.amounts_in.ensures.2, c.amounts_in.ensures.3) at c.test_state.ensures
