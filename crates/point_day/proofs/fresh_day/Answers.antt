-- `point_day::fresh_day` meets its contract. Assumes nothing.
use mathlib.Core.Path.{refl}
use Rattle.numbers.specs.Lists.{flat}
use Rattle.point_day.specs.Day.{fresh}
use Rattle.point_day.specs.Struct.{laid, padded}
use Rattle.point_day.proofs.fresh_day.Goals as goal

pub returns : goal.returns
returns c = unfold laid fresh padded flat in refl
