-- `inventory::inventory` meets its contract. Assumes nothing.
use mathlib.Core.Path.{refl}
use Rattle.taken.proofs.Facts.{known_few, if_taken}
use Rattle.inventory.proofs.inventory.Goals as goal

pub list_rows-requires : goal.list_rows-requires
list_rows-requires c = if_taken _ (λ s. known_few) c.test_day-test.ensures

pub returns : goal.returns
returns c =
    let both = c.list_rows.ensures.of _ c.test_day-test.ensures refl refl refl in
    record { result_value = both.0; afterwards = both.1 }
