-- `plain_day::from_numbers::allotted_in` meets its contract. Assumes nothing.
use mathlib.Core.Path.{ap}
use lib.Dec.{eqb}
use Rattle.plain_day.proofs.from_numbers.allotted_in.Goals as goal

pub returns : goal.returns
returns c = ap (λ n. eqb n 1) c.size_at.ensures
