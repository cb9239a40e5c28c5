-- The working days of a month as a mask, and how many they are. Assumes nothing.
use mathlib.Core.Path.{◌≡◌, refl, sym, ap, ◌∙◌}
use mathlib.Core.Bool.{Bool, true, false}
use mathlib.Core.List.{List}
use Prim.Native.Nat.{ℕ, zero, suc, ◌+◌, ◌-◌, ◌*◌, ◌/◌, ◌%◌, ◌^◌, ◌≤◌, ◌<◌}
use native.Mathlib.Omega.{arith}
use native.Mathlib.Nat.{pow-suc, add_comm, mul-le-mul_right, mod-eq_of_lt}
use native.Mathlib.Numerals.{add-one}
use lib.Arith.{lt-one}
use lib.Count.{ones_in, ones, ones_step, ones_cat}
use lib.Pow.{pow_mono, pow-lt, shr_lt}
use Rattle.numbers.specs.Sums.{bit, sum}
use Rattle.numbers.proofs.Sums.{sum_more, sum_one, sum_lt, bit_one, bit_small, bits_le, sum_ones}
use Rattle.calendar.specs.DayTypes.{is_working}
use Rattle.months.specs.WorkingDays.{MASK_BITS, working_mask, N_lab}
use Rattle.months.specs.declared.Month.{Month}
use Rattle.months.proofs.Months.{Holds}

module _ (w : ℕ → Bool) where
  -- bit i of the mask is whether w holds of i
  abbrev pub mask : ℕ → ℕ
  mask n = sum (λ i. bit (w i) * 2 ^ i) n

  add_bit : (b : Bool) {p m : ℕ} → m < p → m + bit b * p < p * 2
  add_bit true l = omega arith
  add_bit false l = omega arith

  pub mask_below : (n : ℕ) → mask n < 2 ^ n
  unfolding sum
  mask_below zero = omega arith
  mask_below (suc n) = rw (pow-suc 2 n) (add_bit (w n) (mask_below n))

  one_bit : (b : Bool) → ones (bit b) ≡ bit b
  unfolding ones ones_in
  one_bit true = refl
  one_bit false = refl

  pub ones_mask : (n : ℕ) → ones (mask n) ≡ sum (λ i. bit (w i)) n
  unfolding sum ones ones_in
  ones_mask zero = refl
  ones_mask (suc n) =
      ap ones (add_comm (mask n) (bit (w n) * 2 ^ n))
      ∙ ones_cat n (bit (w n)) (mask n) (mask_below n)
      ∙ omega (arith, one_bit (w n), ones_mask n)

  below_word : {n : ℕ} → n < MASK_BITS → {x : ℕ} → x ≤ 1 → x * 2 ^ n < 2 ^ MASK_BITS
  below_word {n} l {x} h = omega (arith, mul-le-mul_right (2 ^ n) h, pow-lt {i = n} {j = MASK_BITS} l)

  -- one day more: its bit is shifted to its place
  pub mask_more : {n m x : ℕ} → n < MASK_BITS → m ≡ mask n → x ≡ bit (w n) → m + (x * 2 ^ n) % 2 ^ MASK_BITS ≡ mask (n + 1)
  mask_more {n} {m} {x} l e f =
      let s : (x * 2 ^ n) % 2 ^ MASK_BITS ≡ x * 2 ^ n = mod-eq_of_lt (below_word l (bit_small (w n) f)) in
      rw (s, e, f) (sym (sum_more (λ i. bit (w i) * 2 ^ i) n))

  pub more_fits : {n m x : ℕ} → n < MASK_BITS → m ≡ mask n → x ≡ bit (w n) → m + (x * 2 ^ n) % 2 ^ MASK_BITS < 2 ^ MASK_BITS
  more_fits {n} l e f = omega (arith, mask_more l e f, mask_below (n + 1), pow_mono {i = n + 1} {j = MASK_BITS} (omega arith))

-- the count of a number's digits needs no more digits than it has
pub ones_digits : (k n : ℕ) → n < 2 ^ k → ones n ≡ ones_in k n
unfolding ones_in
ones_digits zero n h = ap ones (lt-one h) ∙ unfold ones in refl
ones_digits (suc k) n h =
    ones_step n ∙ ap (λ x. n % 2 + x) (ones_digits k (n / 2) (shr_lt k 1 (rw (add-one k) h)))

module _ (hs : List ℕ) (m : Month) (short : m.days < MASK_BITS) where
  pub mask_fits : working_mask hs m < 2 ^ MASK_BITS
  unfolding working_mask
  mask_fits = omega (arith, mask_below (λ i. is_working hs (m.first + i)) m.days, pow_mono {i = m.days} {j = MASK_BITS} (omega arith))

  pub counted : ones (working_mask hs m) ≡ N_lab hs m
  unfolding N_lab
  counted = ones_digits MASK_BITS (working_mask hs m) mask_fits

  -- N_lab is the number of the month's working days
  pub working_count : N_lab hs m ≡ sum (λ i. bit (is_working hs (m.first + i))) m.days
  unfolding working_mask
  working_count = sym counted ∙ ones_mask (λ i. is_working hs (m.first + i)) m.days

-- of a day of the month: N_lab is above 0 if it is a working day, and N_res if it is none
module _ (hs : List ℕ) (d : ℕ) (m : Month) (h : Holds d m) where
  abbrev place : ℕ
  place = d - m.first

  here : m.first + place ≡ d
  here = omega (arith, h.from)

  short : m.days < MASK_BITS
  short = omega (arith, h.long.most)

  inside : place < m.days
  inside = omega (arith, h.from, h.to)

  bit_here : (b : Bool) → is_working hs d ≡ b → bit (is_working hs (m.first + place)) ≡ bit b
  bit_here b e = ap (λ k. bit (is_working hs k)) here ∙ ap bit e

  pub some_working : is_working hs d ≡ true → 0 < N_lab hs m
  some_working e =
      omega (arith, working_count hs m short, sum_one (λ i. bit (is_working hs (m.first + i))) m.days place inside, bit_here true e)

  pub some_other : is_working hs d ≡ false → N_lab hs m < m.days
  some_other e =
      omega (
        arith,
        working_count hs m short,
        sum_ones m.days,
        sum_lt (λ i. bit (is_working hs (m.first + i))) (λ i. 1) m.days (λ i l. bit_one (is_working hs (m.first + i))) place inside (omega (arith, bit_here false e)),
      )

  pub working_all : N_lab hs m ≤ m.days
  working_all = omega (arith, working_count hs m short, bits_le (λ i. is_working hs (m.first + i)) m.days)
