-- Document 02, Req 01: the user's own value, when it arrived, and whether it is used. Assumes nothing.
use Rattle.std.specs.Prelude.{Bool, true, [], ◌∷◌, ℕ, leb, ◌-◌, Option, None, Some}
use Rattle.numbers.specs.Sums.{pick}
use Rattle.numbers.specs.Lists.{both, has}
use Rattle.telemetered.specs.declared.own_value.OwnValue.{OwnValue}

-- the value as it was sent, in time or not
abbrev pub value_sent : Option OwnValue → Option ℕ
value_sent None = None
value_sent (Some v) = Some v.kwh

-- "its arrival minute, counted from the start of the gas day, and .. the length of that day: 1,380, 1,440 or 1,500 minutes"; 16 where
-- "length is none of the three, or arrival exceeds it". A value not sent has neither.
abbrev pub arrival_right : Option OwnValue → Bool
arrival_right None = true
arrival_right (Some v) = both (has v.length (1380 ∷ 1440 ∷ 1500 ∷ [])) (leb v.arrival v.length)

-- "It is used if arrival is at most length − 720. A later value is treated as not sent"
abbrev pub value_to_use : Option OwnValue → Option ℕ
value_to_use None = None
value_to_use (Some v) = pick (leb v.arrival (v.length - 720)) (Some v.kwh) None
