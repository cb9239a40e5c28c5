-- Signed amounts of 64 bits: what is read back from a local's bits, what a test tells, what fits; sums and sizes. Assumes nothing.
use mathlib.Core.Path.{◌≡◌, refl, sym, ap, ap₂, ◌∙◌, subst}
use mathlib.Core.Bool.{Bool, true, false}
use mathlib.Core.List.{List, [], ◌∷◌, map}
use mathlib.Core.Logic.{⊎_elim}
use Prim.Native.Nat.{ℕ, zero, suc, ◌+◌, ◌*◌, ◌^◌, ◌≤◌, ◌<◌}
use native.Mathlib.Omega.{arith}
use native.Mathlib.Nat.{suc-mul, add-mul, one-mul}
use lib.Dec.{T, ltb, leb}
use lib.IntN.{ℤ, pos, negsuc, neg_ℤ, nat_abs, sub_ℕ, ◌+ℤ◌, ◌-ℤ◌, +ℤ_assoc, +ℤ_comm, -ℤ-+ℤ_cancel}
use lib.Signed.{mag, lt_z}
use borrow.Author.Tests.{ltb-true, ltb-false, le-ltb, leb-true}
use mir.Syntax.{w64}
use mir.Val.{SFits, of_z, to_z}
use mir.Facts.{to_z-of_z}
use Rattle.numbers.specs.Sums.{sumZ, total, totalZ}
use Rattle.numbers.specs.Amounts.{Within, is_negative, signed}
use Rattle.numbers.proofs.Sums.{cases, sumZ_more}
use Rattle.numbers.proofs.Lists.{All}

-- ---- sizes

mag_le : (z : ℤ) → mag z ≤ nat_abs z
mag_le (pos n) = omega arith
mag_le (negsuc n) = omega arith

-- a small amount fits
pub sfits : {m : ℕ} {z : ℤ} → Within m z → m < 2 ^ 63 → SFits w64 z
sfits {m} {z} h l = record { sfits = omega (arith, mag_le z, h.size) }

-- and is read back from its bits
pub back : {m : ℕ} {z : ℤ} → Within m z → m < 2 ^ 63 → to_z w64 (of_z w64 z) ≡ z
back h l = to_z-of_z (sfits h l)

pub widen : {m n : ℕ} {z : ℤ} → Within m z → m ≤ n → Within n z
widen h l = record { size = omega (arith, h.size) }

natAbs_sub : (a b : ℕ) → nat_abs (sub_ℕ a b) ≤ a + b
natAbs_sub a b =
    ⊎_elim (λ t. rw t (omega (arith, ltb-true a b t))) (λ t. rw t (omega arith)) (cases (ltb a b))

natAbs_add : (x y : ℤ) → nat_abs (x +ℤ y) ≤ nat_abs x + nat_abs y
natAbs_add (pos a) (pos b) = omega arith
natAbs_add (pos a) (negsuc b) = natAbs_sub a (suc b)
natAbs_add (negsuc a) (pos b) = omega (arith, natAbs_sub b (suc a))
natAbs_add (negsuc a) (negsuc b) = omega arith

pub natAbs_neg : (x : ℤ) → nat_abs (neg_ℤ x) ≡ nat_abs x
natAbs_neg (pos zero) = refl
natAbs_neg (pos (suc n)) = refl
natAbs_neg (negsuc n) = refl

pub within_add : {m n : ℕ} {x y : ℤ} → Within m x → Within n y → Within (m + n) (x +ℤ y)
within_add {x = x} {y = y} h k = record { size = omega (arith, natAbs_add x y, h.size, k.size) }

pub within_neg : {m : ℕ} {x : ℤ} → Within m x → Within m (neg_ℤ x)
within_neg {x = x} h = record { size = omega (arith, natAbs_neg x, h.size) }

pub within_sub : {m n : ℕ} {x y : ℤ} → Within m x → Within n y → Within (m + n) (x -ℤ y)
within_sub h k = within_add h (within_neg k)

-- ---- tests

pub lt_zero : (z : ℤ) → lt_z z (pos 0) ≡ is_negative z
lt_zero (pos n) = le-ltb n 0 (omega arith)
lt_zero (negsuc n) = refl

-- neither below -m nor above m, with m = k + 1
pub between : (z : ℤ) (k : ℕ) → lt_z z (negsuc k) ≡ false → lt_z (pos (suc k)) z ≡ false → nat_abs z ≤ suc k
between (pos n) k e f = ltb-false (suc k) n f
between (negsuc n) k e f = omega (arith, ltb-false k n e)

-- ---- the size and the sign

pub pos_size : (z : ℤ) → is_negative z ≡ false → z ≡ pos (nat_abs z)
pos_size (pos n) e = refl
pos_size (negsuc n) e = absurd (subst T e tt)

-- sizes are the sizes of themselves
pub sizes_of_pos : (xs : List ℕ) → map nat_abs (map pos xs) ≡ xs
sizes_of_pos [] = refl
sizes_of_pos (x ∷ xs) = ap (λ t. x ∷ t) (sizes_of_pos xs)

-- ---- sums

pub within_first : (m : ℕ) (f : ℕ → ℤ) (n : ℕ) → ((i : ℕ) → i < n → Within m (f i)) → Within (n * m) (sumZ f n)
unfolding sumZ
within_first m f zero h = record { size = omega arith }
within_first m f (suc n) h = widen (within_add (within_first m f n (λ i l. h i (omega arith))) (h n (omega arith))) (omega (arith, suc-mul n m))

pub within_sum : (m : ℕ) (f : ℕ → ℤ) → ((i : ℕ) → Within m (f i)) → (n : ℕ) → Within (n * m) (sumZ f n)
within_sum m f h n = within_first m f n (λ i l. h i)

pub within_pos : (m : ℕ) → Within m (pos m)
within_pos m = record { size = omega arith }

-- ---- one turn of a sum: s holds the bits of the sum so far

-- where the amounts up to this one are known to be small
module _ (m : ℕ) (f : ℕ → ℤ) (i : ℕ) (h : (j : ℕ) → j < i + 1 → Within m (f j)) (s : ℕ) (e : to_z w64 s ≡ sumZ f i) (l : (i + 1) * m < 2 ^ 63) where
  pub next_turn : to_z w64 s +ℤ to_z w64 (of_z w64 (f i)) ≡ sumZ f (i + 1)
  next_turn = ap₂ ◌+ℤ◌ e (back (h i (omega arith)) (omega (arith, add-mul i 1 m, one-mul m))) ∙ sym (sumZ_more f i)

  pub next_turn_fits : SFits w64 (to_z w64 s +ℤ to_z w64 (of_z w64 (f i)))
  next_turn_fits = rw next_turn (sfits (within_first m f (i + 1) h) l)

  pub next_turn_kept : to_z w64 (of_z w64 (to_z w64 s +ℤ to_z w64 (of_z w64 (f i)))) ≡ sumZ f (i + 1)
  next_turn_kept = to_z-of_z next_turn_fits ∙ next_turn

-- where all are
module _ (m : ℕ) (f : ℕ → ℤ) (h : (i : ℕ) → Within m (f i)) (i s : ℕ) (e : to_z w64 s ≡ sumZ f i) (l : (i + 1) * m < 2 ^ 63) where
  pub turn : to_z w64 s +ℤ to_z w64 (of_z w64 (f i)) ≡ sumZ f (i + 1)
  turn = next_turn m f i (λ j k. h j) s e l

  pub turn_fits : SFits w64 (to_z w64 s +ℤ to_z w64 (of_z w64 (f i)))
  turn_fits = next_turn_fits m f i (λ j k. h j) s e l

  pub turn_kept : to_z w64 (of_z w64 (to_z w64 s +ℤ to_z w64 (of_z w64 (f i)))) ≡ sumZ f (i + 1)
  turn_kept = next_turn_kept m f i (λ j k. h j) s e l

-- ---- a test that is known to be passed

pub within_test : {m : ℕ} (z : ℤ) → leb (nat_abs z) m ≡ true → Within m z
within_test {m} z e = record { size = leb-true (nat_abs z) m e }

pub within_sign : (p : Bool) (n : ℕ) → Within n (signed p n)
within_sign true n = within_neg (within_pos n)
within_sign false n = within_pos n

-- ---- sums and differences

pub exchange : (a b c d : ℤ) → (a +ℤ b) +ℤ (c +ℤ d) ≡ (a +ℤ c) +ℤ (b +ℤ d)
exchange a b c d =
    +ℤ_assoc a b (c +ℤ d)
    ∙ ap (λ t. a +ℤ t) (sym (+ℤ_assoc b c d) ∙ ap (λ t. t +ℤ d) (+ℤ_comm b c) ∙ +ℤ_assoc c b d)
    ∙ sym (+ℤ_assoc a c (b +ℤ d))

-- a + (b - a) is b
pub fill_up : (a b : ℤ) → a +ℤ (b -ℤ a) ≡ b
fill_up a b = +ℤ_comm a (b -ℤ a) ∙ -ℤ-+ℤ_cancel b a

-- a difference of two naturals, neither above m
pub sub_pos : (a b : ℕ) → pos a -ℤ pos b ≡ sub_ℕ a b
sub_pos a zero = ⊎_elim (λ t. absurd (omega (arith, ltb-true a 0 t))) (λ t. rw t (ap pos (omega arith))) (cases (ltb a 0))
sub_pos a (suc b) = refl

pub size_sub : (a b m : ℕ) → a ≤ m → b ≤ m → nat_abs (pos a -ℤ pos b) ≤ m
size_sub a b m h k =
    rw (sub_pos a b)
    (⊎_elim (λ t. rw t (omega (arith, ltb-true a b t))) (λ t. rw t (omega arith)) (cases (ltb a b)))

-- amounts that are not negative

abbrev pub NonNeg : ℤ → Type 0
NonNeg z = is_negative z ≡ false

pub sum_nonneg : (zs : List ℤ) → All NonNeg zs → totalZ zs ≡ pos (total (map nat_abs zs))
unfolding totalZ total
sum_nonneg [] h = refl
sum_nonneg (z ∷ zs) h = ap₂ ◌+ℤ◌ (pos_size z h.0) (sum_nonneg zs h.1)
