-- `line::line_test` meets its contract: a point-day that is not taken is refused by 2, any other by the tests on it. Assumes nothing.
use mathlib.Core.Path.{refl}
use Rattle.point_day.proofs.Called.{called_untaken}
use Rattle.taken.proofs.Facts.{finds_untaken}
use Rattle.line.proofs.line_test.Goals as goal

pub returns-in-Err : goal.returns-in-Err
returns-in-Err c = finds_untaken c.in-Err.is refl (λ d e. called_untaken _ d e)
