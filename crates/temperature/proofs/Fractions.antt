-- How large the means and the corrections are. Assumes nothing.
use Prim.Native.Nat.{ℕ, ◌+◌, ◌*◌, ◌≤◌}
use native.Mathlib.Omega.{arith}
use native.Mathlib.Nat.{mul-le-mul}
use Rattle.temperature.specs.Temperature.{MOST_DAYS, MOST_DEGREES, ADDED, correction, Corrects, Sound, MonthMean}
use Rattle.temperature.specs.declared.Fraction.{Fraction}

pub cross : {f g : Fraction} → MonthMean f → MonthMean g → f.top * g.bottom ≤ MOST_DAYS * MOST_DEGREES * MOST_DAYS
cross m n = mul-le-mul m.top n.bottom

pub bottoms : {f g : Fraction} → MonthMean f → MonthMean g → f.bottom * g.bottom ≤ MOST_DAYS * MOST_DAYS
bottoms m n = mul-le-mul m.bottom n.bottom

pub corrects : (g : ℕ) (m : Fraction) → g ≤ MOST_DEGREES → Sound m → Corrects (correction g m)
unfolding correction
corrects g m l s =
    let h : g + ADDED ≤ MOST_DEGREES + ADDED = omega arith in
    record { top = omega (arith, mul-le-mul h s.bottom); some = omega (arith, s.some); bottom = omega (arith, s.top, s.bottom) }
