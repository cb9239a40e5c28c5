-- `allot::tests` meets its contract: the tests of the call, of the test of the point-day. Assumes nothing.
use mathlib.Core.Path.{refl}
use Rattle.taken.proofs.Facts.{if_taken}
use Rattle.allot.proofs.tests.Goals as goal

pub allot_test-requires : goal.allot_test-requires
allot_test-requires c = (if_taken _ (λ s k. record { day = c.args.day.now; holds = record { known = k; consumption = refl; losses = refl; revision = refl } }) c.test_day-test.ensures, c.requires)

pub returns : goal.returns
returns c = c.allot_test.ensures.of _ c.test_day-test.ensures refl refl refl
