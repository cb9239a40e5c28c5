-- `plain_day::writes::store_measurement` meets its contract. Assumes nothing.
use mathlib.Core.Path.{ap₂}
use lib.IntN.{pos}
use lib.ListN.{set}
use Rattle.plain_day.specs.Layout.{MEASURED_AT, EMISSION_AT, DOWNSTREAM_AT}
use Rattle.plain_day.proofs.writes.Signed.{signed}
use Rattle.plain_day.proofs.writes.store_measurement.Goals as goal

pub returns : goal.returns
returns c =
    ap₂ (λ e w. set (set (set c.args.day.now MEASURED_AT (pos 1)) EMISSION_AT e) DOWNSTREAM_AT w) (signed c.args.emission c.requires.1) (signed c.args.downstream c.requires.2)
