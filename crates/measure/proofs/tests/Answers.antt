-- `measure::tests` meets its contract: the tests of the call, of the test of the point-day. Assumes nothing.
use Rattle.measure.proofs.tests.Goals as goal

pub returns : goal.returns
returns c = c.measure_test.ensures.of _ c.test_day.ensures
