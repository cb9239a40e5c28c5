-- `line::tests` meets its contract: the tests of the call, of the test of the point-day. Assumes nothing.
use Rattle.taken.proofs.Facts.{known_few, known_sum, if_taken}
use Rattle.line.proofs.tests.Goals as goal

pub line_test-requires : goal.line_test-requires
line_test-requires c = if_taken _ (λ s k. (known_few k, known_sum k)) c.test_day.ensures

pub returns : goal.returns
returns c = c.line_test.ensures.of _ c.test_day.ensures
