-- `allot::allot` meets its contract: what its tests find, it does. Assumes nothing.
use Rattle.allot.proofs.balance.Cells.{none_padded}
use Rattle.allot.proofs.allot.Goals as goal

pub tests-requires : goal.tests-requires
tests-requires c = none_padded c.repeat-cells.ensures
