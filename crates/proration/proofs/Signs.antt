-- The shares of a signed amount are those of its size, with the sign. Assumes nothing.
use mathlib.Core.Path.{◌≡◌, refl, sym, ap, ap₂, ◌∙◌}
use mathlib.Core.Bool.{Bool, true, false}
use mathlib.Core.List.{List, ◌++◌, append-nil}
use Prim.Native.Nat.{ℕ, zero, suc, ◌+◌, ◌≤◌, ◌<◌}
use native.Mathlib.Omega.{arith}
use lib.IntN.{ℤ, pos, negsuc, nat_abs, ◌+ℤ◌, neg_ℤ-+ℤ}
use lib.ListN.{length, drop, drop_of_length-le}
use Rattle.numbers.specs.Sums.{sum, sumZ, table, at, atZ, totalZ}
use Rattle.numbers.specs.Lists.{Distinct}
use Rattle.numbers.specs.Amounts.{Within, is_negative, signed}
use Rattle.numbers.proofs.Sums.{length_table, getD_table, total_sum, totalZ_table}
use Rattle.numbers.proofs.Amounts.{natAbs_neg}
use Rattle.proration.specs.Proration.{LARGEST_AMOUNT, prorate, prorateZ}
use Rattle.proration.proofs.Prorated.{prorate_sum, prorate_small, length_prorate}

with_sum : (p : Bool) (a b : ℕ) → signed p a +ℤ signed p b ≡ signed p (a + b)
with_sum true a b = sym (neg_ℤ-+ℤ (pos a) (pos b))
with_sum false a b = refl

pub sign_sum : (p : Bool) (f : ℕ → ℕ) (n : ℕ) → sumZ (λ i. signed p (f i)) n ≡ signed p (sum f n)
unfolding sumZ sum
sign_sum true f zero = refl
sign_sum false f zero = refl
sign_sum true f (suc n) = ap (λ z. z +ℤ signed true (f n)) (sign_sum true f n) ∙ with_sum true (sum f n) (f n)
sign_sum false f (suc n) = ap (λ z. z +ℤ signed false (f n)) (sign_sum false f n) ∙ with_sum false (sum f n) (f n)

pub size_sign : (z : ℤ) → signed (is_negative z) (nat_abs z) ≡ z
size_sign (pos n) = refl
size_sign (negsuc n) = refl

pub sign_size : (p : Bool) (n : ℕ) → nat_abs (signed p n) ≡ n
sign_size true n = natAbs_neg (pos n)
sign_size false n = refl

module _ (z : ℤ) (ws ks : List ℕ) where
  pub lengthZ : length (prorateZ z ws ks) ≡ length ws
  unfolding prorateZ
  lengthZ = length_table _ (length ws)

  pub shareZ : (i : ℕ) → i < length ws → atZ (prorateZ z ws ks) i ≡ signed (is_negative z) (at (prorate (nat_abs z) ws ks) i)
  unfolding prorateZ
  shareZ i l = getD_table _ (length ws) i (pos 0) l

module _ (z : ℤ) (ws ks : List ℕ) (some : 0 < length ws) where
  pub totalZ_is : Distinct ks → length ws ≤ length ks → totalZ (prorateZ z ws ks) ≡ z
  unfolding prorateZ
  totalZ_is d l =
      totalZ_table _ (length ws)
      ∙ sign_sum (is_negative z) (at (prorate (nat_abs z) ws ks)) (length ws)
      ∙ ap (signed (is_negative z)) (ap (sum (at (prorate (nat_abs z) ws ks))) (sym (length_prorate (nat_abs z) ws ks some)) ∙ whole)
      ∙ size_sign z
    where
      whole : sum (at (prorate (nat_abs z) ws ks)) (length (prorate (nat_abs z) ws ks)) ≡ nat_abs z
      whole = sym (total_sum (prorate (nat_abs z) ws ks)) ∙ prorate_sum (nat_abs z) ws ks some d l

  -- the two steps of `split_signed`
  module _ {a : ℕ} (size : a ≡ nat_abs z) (s₀ : List ℕ) (long : length s₀ ≡ length ws) {s : List ℕ} (e : s ≡ prorate a ws ks ++ drop (length ws) s₀) where
    shares_are : s ≡ prorate (nat_abs z) ws ks
    shares_are =
        e
        ∙ ap₂ (λ m t. prorate m ws ks ++ t) size (drop_of_length-le s₀ {i = length ws} (omega arith))
        ∙ append-nil (prorate (nat_abs z) ws ks)

    pub shares_small : Within LARGEST_AMOUNT z → (i : ℕ) → at s i ≤ LARGEST_AMOUNT + 1
    shares_small h i = omega (arith, ap (λ t. at t i) shares_are, prorate_small (nat_abs z) ws ks some i, h.size)

    pub shares_long : length s ≡ length ws
    shares_long = ap length shares_are ∙ length_prorate (nat_abs z) ws ks some

    pub signed_are : {p : Bool} (o₀ : List ℤ) {o : List ℤ} → p ≡ is_negative z
        → o ≡ table (λ i. signed p (at s i)) (length s) ++ drop (length s) o₀ → o ≡ prorateZ z ws ks ++ drop (length ws) o₀
    unfolding prorateZ
    signed_are {p} o₀ {o} q g =
        g
        ∙ ap (λ m. table (λ i. signed p (at s i)) m ++ drop m o₀) shares_long
        ∙ ap₂ (λ u t. table (λ i. signed u (at t i)) (length ws) ++ drop (length ws) o₀) q shares_are
