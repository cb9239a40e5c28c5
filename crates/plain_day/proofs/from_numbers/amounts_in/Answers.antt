-- `plain_day::from_numbers::amounts_in` meets its contract: each array is its part of the numbers. Assumes nothing.
use Rattle.plain_day.specs.Layout.{day_in}
use Rattle.plain_day.proofs.from_numbers.amounts_in.Goals as goal

pub returns : goal.returns
unfolding day_in
returns c = (
  (rw c.unwrap.ensures at c.as_array.ensures.cases).same,
  (rw c.unwrap-2.ensures at c.as_array-2.ensures.cases).same,
  (rw c.unwrap-3.ensures at c.as_array-3.ensures.cases).same,
  (rw c.unwrap-4.ensures at c.as_array-4.ensures.cases).same,
)
