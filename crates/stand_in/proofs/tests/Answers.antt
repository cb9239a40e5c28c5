-- `stand_in::tests` meets its contract: the tests of the call, of the test of the point-day. Assumes nothing.
use Rattle.taken.proofs.Facts.{known_measurement, if_taken}
use Rattle.stand_in.proofs.tests.Goals as goal

pub stand_in_test-requires : goal.stand_in_test-requires
stand_in_test-requires c = (if_taken _ (λ s k. known_measurement k) c.test_day-test.ensures, c.requires)

pub returns : goal.returns
returns c = c.stand_in_test.ensures.of _ c.test_day-test.ensures
