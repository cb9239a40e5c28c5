-- `plain_day::from_numbers::measurement_in` meets its contract. Assumes nothing.

use Rattle.plain_day.proofs.from_numbers.measurement_in.Goals as goal

pub returns : goal.returns
returns c = rw (← c.size_at.ensures, ← c.size_at-2.ensures, ← c.size_at-3.ensures) c.measurement_of.ensures
