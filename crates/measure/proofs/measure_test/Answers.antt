-- `measure::measure_test` meets its contract: a point-day that is not taken is refused by 2, any other by the tests on it. Assumes nothing.
use mathlib.Core.Path.{refl}
use Rattle.point_day.proofs.Called.{called_untaken}
use Rattle.taken.proofs.Facts.{finds_untaken}
use Rattle.measure.proofs.Measures.{fails}
use Rattle.measure.proofs.measure_test.Goals as goal

pub returns-in-Err : goal.returns-in-Err
returns-in-Err c = finds_untaken c.in-Err.is refl (λ d e. fails _ _ d 1 (called_untaken _ d e))
