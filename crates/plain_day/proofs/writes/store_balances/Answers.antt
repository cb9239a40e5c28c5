-- `plain_day::writes::store_balances` meets its contract. Assumes nothing.
use mathlib.Core.Path.{ap}
use lib.IntN.{pos}
use lib.ListN.{set}
use Rattle.plain_day.specs.Layout.{ALLOTTED_AT}
use Rattle.plain_day.proofs.writes.store_balances.Goals as goal

pub returns : goal.returns
returns c =
    ap (λ t. set t ALLOTTED_AT (pos 1)) c.put.ensures
