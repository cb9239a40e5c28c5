-- The laws of proration. Assumes nothing.
use mathlib.Core.Path.{◌≡◌, refl, ap, ◌∙◌, subst}
use mathlib.Core.Bool.{Bool, true, false}
use mathlib.Core.List.{List}
use mathlib.Core.Logic.{⊎_elim, ◌⊎◌, inl, inr}
use Prim.Native.Nat.{ℕ, zero, suc, ◌+◌, ◌*◌, ◌≤◌, ◌<◌}
use native.Mathlib.Omega.{arith}
use native.Mathlib.Nat.{mul-one, mul-zero, mul-add, lt_of_mul-lt-mul_left, mul-le-mul_right, zero-mul, eq-zero-or-pos}
use lib.Dec.{ltb}
use lib.IntN.{ℤ, pos, nat_abs, neg_ℤ, ◌-ℤ◌, ◌*ℤ◌, neg_ℤ-+ℤ}
use lib.ListN.{length}
use borrow.Author.Tests.{ltb-true, ltb-false}
use Rattle.numbers.specs.Sums.{at, atZ, total}
use Rattle.numbers.specs.Lists.{Distinct}
use Rattle.numbers.specs.Amounts.{is_negative, signed}
use Rattle.numbers.proofs.Sums.{cases, at_total}
use Rattle.numbers.proofs.Amounts.{natAbs_neg, sub_pos}
use Rattle.proration.specs.Proration.{prorate, counted, prorateZ}
use Rattle.proration.specs.Laws.{Near, Fair}
use Rattle.proration.proofs.Prorated.{prorate_sum, prorate_near, prorate_zero, counted_same, near_zero}
use Rattle.proration.proofs.Signs.{lengthZ, shareZ, totalZ_is, size_sign, sign_size}

-- of no more than the weights' sum no party gets more than its weight
near_le : (a W w x : ℕ) → a ≤ W → 0 < W → Near a W w x → x ≤ w
near_le a W w x h k n =
    omega (arith, lt_of_mul-lt-mul_left W {m = x} {n = w + 1} (omega (arith, n.above, mul-le-mul_right w h, mul-add W w 1, mul-one W)))

-- less than 1 from the proportion, with a sign

near_size : (x y W : ℕ) → x < y + W → y < x + W → nat_abs (pos x -ℤ pos y) < W
near_size x y W h k =
    rw (sub_pos x y)
    (⊎_elim (λ t. rw t (omega (arith, ltb-true x y t))) (λ t. rw t (omega (arith, ltb-false x y t))) (cases (ltb x y)))

neg_size : (x y W : ℕ) → x < y + W → y < x + W → nat_abs (neg_ℤ (pos x) -ℤ neg_ℤ (pos y)) < W
neg_size x y W h k =
    omega (arith, natAbs_neg (pos x -ℤ pos y), ap nat_abs (neg_ℤ-+ℤ (pos x) (neg_ℤ (pos y))), near_size x y W h k)

mul_neg : (x y : ℕ) → pos x *ℤ neg_ℤ (pos y) ≡ neg_ℤ (pos (x * y))
mul_neg x zero = rw (mul-zero x)
mul_neg x (suc y) = refl

neg_mul : (x y : ℕ) → neg_ℤ (pos x) *ℤ pos y ≡ neg_ℤ (pos (x * y))
neg_mul zero y = rw (zero-mul y)
neg_mul (suc x) y = refl

fair_size : (p : Bool) (a W w x : ℕ) → Near a W w x → nat_abs (pos W *ℤ signed p x -ℤ signed p a *ℤ pos w) < W
fair_size true a W w x h = rw (mul_neg W x, neg_mul a w) (neg_size (W * x) (a * w) W h.above h.below)
fair_size false a W w x h = near_size (W * x) (a * w) W h.above h.below

signed_sign : (p : Bool) (n : ℕ) → (signed p n ≡ pos 0) ⊎ (is_negative (signed p n) ≡ p)
signed_sign true zero = inl refl
signed_sign true (suc n) = inr refl
signed_sign false n = inr refl

signed_zero : (p : Bool) {n : ℕ} → n ≡ 0 → signed p n ≡ pos 0
signed_zero true e = rw e
signed_zero false e = rw e

module _ (z : ℤ) (ws ks : List ℕ) where
  abbrev a : ℕ
  a = nat_abs z

  module _ (i : ℕ) (l : i < length ws) where
    pub share_near : nat_abs (pos (total (counted ws)) *ℤ atZ (prorateZ z ws ks) i -ℤ z *ℤ pos (at (counted ws) i)) < total (counted ws)
    share_near =
        let W = total (counted ws) in
        let w = at (counted ws) i in
        subst (λ y. nat_abs (pos W *ℤ atZ (prorateZ z ws ks) i -ℤ y *ℤ pos w) < W) (size_sign z)
        (rw (shareZ z ws ks i l) (fair_size (is_negative z) a W w (at (prorate a ws ks) i) (prorate_near a ws ks (omega arith) i l)))

    pub share_sign : (atZ (prorateZ z ws ks) i ≡ pos 0) ⊎ (is_negative (atZ (prorateZ z ws ks) i) ≡ is_negative z)
    share_sign = rw (shareZ z ws ks i l) (signed_sign (is_negative z) (at (prorate a ws ks) i))

    pub share_size : Distinct ks → length ws ≤ length ks → nat_abs (atZ (prorateZ z ws ks) i) ≤ a
    share_size d long =
        rw (shareZ z ws ks i l, sign_size (is_negative z) (at (prorate a ws ks) i))
        (omega (arith, at_total (prorate a ws ks) i, prorate_sum a ws ks (omega arith) d long))

    pub share_nothing : 0 < total ws → at ws i ≡ 0 → atZ (prorateZ z ws ks) i ≡ pos 0
    share_nothing h e = shareZ z ws ks i l ∙ signed_zero (is_negative z) (prorate_zero a ws ks (omega arith) h i l e)

    none : a ≤ total ws → total ws ≡ 0 → a * at (counted ws) i ≡ 0
    none h e = let f : a ≡ 0 = omega arith in rw f (zero-mul (at (counted ws) i))

    pub share_capped : a ≤ total ws → nat_abs (atZ (prorateZ z ws ks) i) ≤ at ws i
    share_capped h =
        rw (shareZ z ws ks i l, sign_size (is_negative z) (at (prorate a ws ks) i))
        (⊎_elim
        (λ e. omega (arith, near_zero (prorate_near a ws ks (omega arith) i l) (none h e)))
        (λ p. near_le a (total ws) (at ws i) (at (prorate a ws ks) i) h p (rw (counted_same ws p) at (prorate_near a ws ks (omega arith) i l)))
        (eq-zero-or-pos (total ws)))

  pub fair : 0 < length ws → Distinct ks → length ws ≤ length ks → Fair z ws ks
  fair some d long = record {
    parties = lengthZ z ws ks;
    adds_up = totalZ_is z ws ks some d long;
    near = share_near;
    sign = share_sign;
    size = λ i l. share_size i l d long;
    nothing = λ h i l e. share_nothing i l h e;
    capped = λ h i l. share_capped i l h;
  }
