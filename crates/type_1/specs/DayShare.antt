-- Document 01, "Type 1": C_d, a day's share of a month's consumption. Assumes nothing.
use Rattle.std.specs.Prelude.{Option, None, Some, Bool, ◌≡◌, refl, ℕ, ◌-◌, ◌*◌}
use Rattle.numbers.specs.Nearest.{nearest}
use Rattle.numbers.specs.Sums.{pick}
use Rattle.numbers.specs.Refusals.{NO_BASIS}
use Rattle.calendar.specs.Answers.{Answer, refused, given, tested}
use Rattle.temperature.specs.declared.Fraction.{Fraction}
use Rattle.temperature.specs.Temperature.{◌over◌, times, divided, rounded, MOST_DAYS}
use Rattle.supply.specs.Amounts.{THOUSAND, limited}

-- C_d = C_m × part / divisor, rounded once
unfoldable pub day_of : Option Fraction → ℕ → ℕ → Answer ℕ
day_of None part divisor = refused NO_BASIS
day_of (Some m) part divisor = limited (rounded (divided (times part m) divisor))

-- the most that C_m is divided by
abbrev pub MOST_DIVISOR : ℕ
MOST_DIVISOR = THOUSAND * MOST_DAYS

-- the thousandths of C_m that the working days share, or the others
abbrev pub part_of : Bool → ℕ → ℕ
part_of working cf = pick working cf (THOUSAND - cf)

-- rounded once: 44.6 kWh over 30 days are 1.49 kWh a day. (45 over 30 would be 1.5, and so 2.)
rounded_once : day_of (Some (446 over 10)) 1 30 ≡ given 1
unfolding day_of limited tested nearest
rounded_once = refl
