-- What a revision shares out, and what it adds to each user. Assumes nothing. No exported contract leans on it.
use Rattle.std.specs.Prelude.{List, map, ℕ, ℤ, nat_abs, ◌-ℤ◌}
use Rattle.proration.specs.Proration.{prorateZ}
use Rattle.point_day.specs.Day.{all_whole, net}
use Rattle.point_day.specs.Struct.{read}
use Rattle.point_day.specs.declared.PointDay.{PointDay}

-- "R = net − everything allotted"
unfoldable pub outstanding : PointDay → ℤ
outstanding d = net (read d) -ℤ all_whole (read d).users

-- "R is prorated by each user's whole amount": the users' shares by their numbers and whole amounts
abbrev pub shares : ℤ → List ℕ → List ℤ → List ℤ
shares R numbers wholes = prorateZ R (map nat_abs wholes) numbers
