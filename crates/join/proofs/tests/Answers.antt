-- `join::tests` meets its contract: the tests of a join, of the test of the point-day. Assumes nothing.
use Rattle.taken.proofs.Facts.{known_few, if_taken}
use Rattle.join.proofs.tests.Goals as goal

pub join_test-requires : goal.join_test-requires
join_test-requires c = if_taken _ (λ s. known_few) c.test_day.ensures

pub returns : goal.returns
returns c = c.join_test.ensures.of _ c.test_day.ensures
