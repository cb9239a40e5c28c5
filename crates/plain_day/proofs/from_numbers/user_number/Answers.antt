-- `plain_day::from_numbers::user_number` meets its contract. Assumes nothing.
use native.Mathlib.Omega.{arith}
use mir.Facts.{to_z-of_z}
use Rattle.point_day.specs.Limits.{LAST_NUMBER}
use Rattle.plain_day.proofs.Ranges.{up_to_le}
use Rattle.plain_day.proofs.from_numbers.user_number.Goals as goal

pub overflow_cast-result : goal.overflow_cast-result
overflow_cast-result c =
    omega (arith, rw (to_z-of_z c.ranges.x) at c.unsigned_abs.ensures.value, up_to_le LAST_NUMBER c.args.x c.requires)

pub returns : goal.returns
returns c = rw (to_z-of_z c.ranges.x) at c.unsigned_abs.ensures.value
