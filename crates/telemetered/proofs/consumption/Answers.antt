-- `telemetered::consumption` meets its contract: the tests, and what comes after them. Assumes nothing.
use Rattle.telemetered.proofs.consumption.Goals as goal

pub returns : goal.returns
returns g c = let e = c.in_ok-calendar.ensures.given in rw (e.0, e.1) at c.of_values.ensures
