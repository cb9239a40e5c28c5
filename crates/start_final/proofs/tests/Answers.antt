-- `start_final::tests` meets its contract: the tests of the call, of the test of the point-day. Assumes nothing.
use Rattle.start_final.proofs.tests.Goals as goal

pub returns : goal.returns
returns c = c.start_final_test.ensures.of _ c.test_day.ensures
