-- How large a month's consumption is. Assumes nothing.
use mathlib.Core.Path.{◌≡◌}
use mathlib.Core.Bool.{true}
use Prim.Native.Nat.{ℕ, ◌*◌, ◌≤◌}
use native.Mathlib.Omega.{arith}
use native.Mathlib.Nat.{mul-le-mul}
use borrow.Author.Tests.{leb-true}
use Rattle.temperature.specs.Temperature.{MOST_DAYS, Corrects}
use Rattle.temperature.specs.declared.Fraction.{Fraction}
use Rattle.supply.specs.Amounts.{LIMIT, THOUSAND, MOST_C_c, amount_right}
use Rattle.type_1.specs.MonthConsumption.{month_34, month_other, SmallBasis}
use Rattle.std.specs.Prelude.{Option, None, Some}

pub small_34 : (ly : Option ℕ) (c : Fraction) (lm q : Option ℕ) → amount_right ly ≡ true → amount_right lm ≡ true → amount_right q ≡ true → Corrects c
    → SmallBasis (month_34 ly c lm q)
unfolding month_34
small_34 (Some v) c lm q h k l r = (omega (arith, mul-le-mul (leb-true v LIMIT h) r.top), r.some, omega (arith, r.bottom))
small_34 None c (Some v) q h k l r = (omega (arith, leb-true v LIMIT k), omega arith, omega arith)
small_34 None c None (Some v) h k l r = (omega (arith, leb-true v LIMIT l), omega arith, omega arith)
small_34 None c None None h k l r = tt

-- a product of three
pub three : {a b c x y z : ℕ} → a ≤ x → b ≤ y → c ≤ z → a * b * c ≤ x * y * z
three h k l = mul-le-mul (mul-le-mul h k) l

pub small_other : (ly : Option ℕ) (cc : ℕ) (lm q : Option ℕ) (f n : ℕ) → amount_right ly ≡ true → amount_right lm ≡ true → amount_right q ≡ true
    → cc ≤ MOST_C_c → f ≤ THOUSAND → n ≤ MOST_DAYS → SmallBasis (month_other ly cc lm q f n)
unfolding month_other
small_other (Some v) cc lm q f n h k l a b c = (omega (arith, mul-le-mul (leb-true v LIMIT h) a), omega arith, omega arith)
small_other None cc (Some v) q f n h k l a b c = (omega (arith, leb-true v LIMIT k), omega arith, omega arith)
small_other None cc None (Some v) f n h k l a b c = (omega (arith, three (leb-true v LIMIT l) b c), omega arith, omega arith)
small_other None cc None None f n h k l a b c = tt
