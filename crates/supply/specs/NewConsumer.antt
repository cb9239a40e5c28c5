-- Document 01, "Telemetered": a new consumer's consumption, from its contracted flows. Assumes nothing.
use Rattle.std.specs.Prelude.{ℕ, ◌*◌, Option, None, Some}
use Rattle.numbers.specs.Nearest.{nearest}
use Rattle.supply.specs.Amounts.{THOUSAND}
use Rattle.supply.specs.declared.Toll.{Toll}
use Rattle.supply.specs.declared.Toll.TheVariants.{Toll34, OtherToll}
use Rattle.supply.specs.declared.Flows.{Flows}

-- the days that a new consumer's yearly flow is divided by
abbrev pub NEW_DAYS : ℕ
NEW_DAYS = 210

-- Q_a / 210, and Q_d × f_c
abbrev pub of_year : Option ℕ → Option ℕ
of_year None = None
of_year (Some q) = Some (nearest q NEW_DAYS)

abbrev pub of_day : ℕ → Option ℕ → Option ℕ
of_day f None = None
of_day f (Some q) = Some (nearest (q * f) THOUSAND)

-- "for a new consumer, Q_a / 210 (toll 3.4) or Q_d × f_c"
abbrev pub by_toll : Toll → Flows → Option ℕ
by_toll Toll34 f = of_year f.yearly
by_toll OtherToll f = of_day f.factor f.daily

unfoldable pub new_consumption : Flows → Option ℕ
new_consumption f = by_toll f.toll f
