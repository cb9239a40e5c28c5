-- Document 01, "Type 1": C_m, a month's consumption. Assumes nothing.
use Rattle.std.specs.Prelude.{Option, None, Some, ℕ, ◌*◌, ◌≤◌}
use Rattle.months.specs.Months.{MONTHS_OF_A_YEAR}
use Rattle.temperature.specs.Temperature.{◌over◌, times}
use Rattle.temperature.specs.declared.Fraction.{Fraction}
use Rattle.supply.specs.Amounts.{THOUSAND, TEN_THOUSAND}

-- C_m, the consumption of the gas day's month, is an exact fraction or has no basis

-- "the same month last year, .. (toll 3.4: times C_temp1); if missing, the last month, uncorrected; if missing, Q_a / 12 (toll 3.4)"
unfoldable pub month_34 : Option ℕ → Fraction → Option ℕ → Option ℕ → Option Fraction
month_34 (Some v) c last q = Some (times v c)
month_34 None c (Some v) q = Some (v over 1)
month_34 None c None (Some q) = Some (q over MONTHS_OF_A_YEAR)
month_34 None c None None = None

-- other tolls: "the same month last year, times C_c ..; if missing, the last month, uncorrected; if missing, .. Q_d × f_c × N"
unfoldable pub month_other : Option ℕ → ℕ → Option ℕ → Option ℕ → ℕ → ℕ → Option Fraction
month_other (Some v) c last q f n = Some (v * c over TEN_THOUSAND)
month_other None c (Some v) q f n = Some (v over 1)
month_other None c None (Some q) f n = Some (q * f * n over THOUSAND)
month_other None c None None f n = None

-- a month's consumption that leaves room to be shared out within 64 bits
abbrev pub SmallBasis : Option Fraction → Type 0
SmallBasis None = Unit {0}
SmallBasis (Some m) = (m.top ≤ 10000000000000000) × (1 ≤ m.bottom) × (m.bottom ≤ 10000000)
