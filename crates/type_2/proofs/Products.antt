-- Products that fit, and one that is not 0. Assumes nothing.
use mathlib.Core.Path.{◌≡◌, sym, ◌∙◌}
use mathlib.Core.Bool.{Bool, true, false, not}
use mathlib.Core.List.{List}
use Prim.Native.Nat.{ℕ, ◌*◌, ◌≤◌, ◌<◌}
use native.Mathlib.Omega.{arith}
use native.Mathlib.Nat.{mul-le-mul, mul-pos}
use lib.Dec.{leb}
use borrow.Author.Tests.{leb-true, not-false}
use Rattle.numbers.proofs.Lists.{both_fst, both_snd}
use Rattle.temperature.specs.Temperature.{MOST_DEGREES, is_degrees, C_temp2, Corrects}
use Rattle.temperature.specs.declared.Fraction.{Fraction}
use Rattle.temperature.proofs.Fractions.{corrects}
use Rattle.temperature.proofs.Means.{winters_sound}
use Rattle.type_2.specs.Type2.{MOST_CONSUMERS, MOST_PROFILE, MOST_PRODUCT, type_2_right}

-- consumers times profile, corrected
pub product_small : (n : ℕ) (c : Fraction) → n ≤ MOST_PRODUCT → Corrects c → n * c.top ≤ MOST_PRODUCT * 10000000
product_small n c l s = let h : c.top ≤ 10000000 = omega arith in mul-le-mul l h

-- C_temp2, once the tests have passed
pub small : (consumers profile g k : ℕ) (first second : List ℕ) {r : Bool} → r ≡ type_2_right consumers profile g k first second → not r ≡ false → Corrects (C_temp2 g k first second)
unfolding type_2_right
small consumers profile g k first second e f =
    let h : type_2_right consumers profile g k first second ≡ true = sym e ∙ not-false _ f in
    let l = both_snd (leb profile MOST_PROFILE) _ (both_snd (leb consumers MOST_CONSUMERS) _ h) in
    corrects _ _ (leb-true g MOST_DEGREES (both_fst _ _ l)) (winters_sound _ _ _ (both_snd (is_degrees g) _ l))

pub ruleset corrected = (winters_sound, corrects, product_small)

pub product_positive : (a b : ℕ) → 0 < a → 0 < b → 0 < a * b
product_positive a b l m = mul-pos l m
