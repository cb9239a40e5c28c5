-- Amounts place by place, against tests of every element; sums of amounts that are not negative. Assumes nothing.
use mathlib.Core.Path.{◌≡◌, refl, ap₂}
use mathlib.Core.Bool.{true, false}
use mathlib.Core.List.{List}
use mathlib.Core.Logic.{⊎_elim}
use Prim.Native.Nat.{ℕ, zero, suc, ◌≤◌, ◌<◌}
use native.Mathlib.Omega.{arith}
use lib.IntN.{ℤ, pos, negsuc, neg_ℤ, nat_abs, ◌+ℤ◌}
use lib.ListN.{length, get_or-eq_default}
use mir.Syntax.{w64}
use mir.Val.{of_z, to_z, SFits}
use borrow.Author.Tests.{eqb-true, eq-eqb, ltb-false, le-ltb}
use Rattle.numbers.specs.Sums.{atZ}
use Rattle.numbers.specs.Amounts.{Within, Between, is_negative}
use Rattle.numbers.proofs.Sums.{lt_or_ge}
use Rattle.numbers.proofs.Lists.{true≢false}
use Rattle.numbers.proofs.Amounts.{between, back, sfits, widen, within_add, within_pos}
use Rattle.point_day.specs.Limits.{LIMIT, AMOUNT}
use Rattle.point_day.specs.Day.{is_zero}
use Rattle.state.specs.Places.{From}

-- ---- ranges of an amount

pub zero_between : (z : ℤ) → is_zero z ≡ true → Between (pos 0) (pos 0) z
zero_between (pos zero) e = record { above = refl; below = refl }
zero_between (pos (suc n)) e = absurd (omega (arith, eqb-true (suc n) 0 e))
zero_between (negsuc n) e = absurd (omega (arith, eqb-true (suc n) 0 e))

pub between_zero : (z : ℤ) → Between (pos 0) (pos 0) z → is_zero z ≡ true
between_zero (pos n) h = eq-eqb n 0 (omega (arith, ltb-false 0 n h.below))
between_zero (negsuc n) h = true≢false h.above

pub between_sign : {m : ℕ} (z : ℤ) → Between (pos 0) (pos m) z → is_negative z ≡ false
between_sign (pos n) h = refl
between_sign (negsuc n) h = true≢false h.above

pub low_size : (m : ℕ) (z : ℤ) → Between (pos 0) (pos m) z → nat_abs z ≤ m
low_size m (pos n) h = ltb-false m n h.below
low_size m (negsuc n) h = true≢false h.above

pub nonneg_between : (m : ℕ) (z : ℤ) → is_negative z ≡ false → nat_abs z ≤ m → Between (pos 0) (pos m) z
nonneg_between m (pos n) e l = record { above = le-ltb n 0 (omega arith); below = le-ltb m n l }
nonneg_between m (negsuc n) e l = true≢false e

pub between_size : (z : ℤ) → Between (neg_ℤ (pos AMOUNT)) (pos AMOUNT) z → nat_abs z ≤ AMOUNT
between_size z h = between z 1999999999 h.above h.below

pub size_between : (z : ℤ) → nat_abs z ≤ AMOUNT → Between (neg_ℤ (pos AMOUNT)) (pos AMOUNT) z
size_between (pos n) l = record { above = refl; below = le-ltb AMOUNT n l }
size_between (negsuc n) l = record { above = le-ltb 1999999999 n (omega arith); below = refl }

-- ---- every place of an array, past its end too

pub within_from : (m : ℕ) (xs : List ℤ) → ((i : ℕ) → 0 ≤ i → i < length xs → nat_abs (atZ xs i) ≤ m) → (k : ℕ) → m ≤ k → (i : ℕ) → Within k (atZ xs i)
within_from m xs h k l i = record {
  size = ⊎_elim (λ q. omega (arith, h i (omega arith) q)) (λ q. rw (get_or-eq_default xs (pos 0) {n = i} q) (omega arith)) (lt_or_ge i (length xs));
}

pub low_from : (m : ℕ) (xs : List ℤ) → From 0 (pos 0) (pos m) xs → (k : ℕ) → m ≤ k → (i : ℕ) → Within k (atZ xs i)
low_from m xs h k l i = within_from m xs (λ i n q. low_size m (atZ xs i) (h i n q)) k l i

-- ---- an amount added at a cell, in 64 bits

module _ (x : ℤ) (n : ℕ) (h : Within LIMIT x) (l : n ≤ LIMIT) where
  cell_is : to_z w64 (of_z w64 x) +ℤ to_z w64 n ≡ x +ℤ pos n
  cell_is = ap₂ ◌+ℤ◌ (back h (omega arith)) (back {m = LIMIT} {z = pos n} (widen (within_pos n) l) (omega arith))

  pub cell_fits : SFits w64 (to_z w64 (of_z w64 x) +ℤ to_z w64 n)
  cell_fits = rw cell_is (sfits (within_add h (widen (within_pos n) l)) (omega arith))

  pub cell_back : to_z w64 (of_z w64 (to_z w64 (of_z w64 x) +ℤ to_z w64 n)) ≡ x +ℤ pos n
  cell_back = rw cell_is (back (within_add h (widen (within_pos n) l)) (omega arith))
