-- `inventory::list_rows` meets its contract: a point-day that is not taken is refused by 2, any other by the tests on it. Assumes nothing.
use mathlib.Core.Path.{refl}
use Rattle.taken.proofs.Facts.{finds_untaken}
use Rattle.inventory.proofs.Outcomes.{not_taken}
use Rattle.inventory.proofs.list_rows.Goals as goal

pub returns-in-Err : goal.returns-in-Err
returns-in-Err c = finds_untaken c.in-Err.is (refl, refl) (λ d e x y z. not_taken d _ e)
