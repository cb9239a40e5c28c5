-- What `prorate` gives: as many shares as weights, that sum to the amount, each less than one unit from its exact part. Assumes nothing.
use mathlib.Core.Path.{◌≡◌, refl, sym, ap, ap₂, ◌∙◌}
use mathlib.Core.Bool.{Bool, true, false}
use mathlib.Core.List.{List, ◌∷◌, ◌++◌}
use mathlib.Core.Logic.{⊎_elim}
use Prim.Native.Nat.{ℕ, zero, suc, ◌+◌, ◌*◌, ◌≤◌, ◌<◌}
use native.Mathlib.Nat.{mul-zero, mul-one, lt_of_mul-lt-mul_left, eq-zero-or-pos}
use native.Mathlib.Omega.{arith}
use lib.Dec.{eqb, ltb}
use lib.ListN.{length, take, drop, get_or-eq_default, replicate, length-replicate, get_or-replicate}
use borrow.Author.Tests.{eqb-false, eq-eqb, ne_eqb}
use Rattle.numbers.specs.Sums.{pick, at, total, Bounded}
use Rattle.proration.specs.Proration.{rem, floor, rank, left, share, split, counted, prorate}
use Rattle.numbers.specs.Lists.{Distinct}
use Rattle.proration.specs.Laws.{Near}
use Rattle.numbers.proofs.Sums.{lt_or_ge, bit_one, sum_one, sum_eq, length_table, at_table, total_sum, total_table, sum_ones}
use Rattle.proration.proofs.Shares.{sums, near, floors_le}

-- the weights that count

total_ones : (n : ℕ) → total (replicate n 1) ≡ n
total_ones n =
    total_sum (replicate n 1) ∙ rw (length-replicate {A = ℕ} n 1) (sum_eq (at (replicate n 1)) (λ i. 1) n (λ i l. get_or-replicate n i 1 0 l) ∙ sum_ones n)

pub length_counted : (ws : List ℕ) → length (counted ws) ≡ length ws
unfolding counted
length_counted ws = go (eqb (total ws) 0)
  where
    go : (p : Bool) → length (pick p (replicate (length ws) 1) ws) ≡ length ws
    go true = length-replicate (length ws) 1
    go false = refl

pub counted_pos : (ws : List ℕ) → 0 < length ws → 0 < total (counted ws)
unfolding counted
counted_pos ws h = go (eqb (total ws) 0) refl
  where
    go : (p : Bool) → eqb (total ws) 0 ≡ p → 0 < total (pick p (replicate (length ws) 1) ws)
    go true e = omega (arith, total_ones (length ws))
    go false e = ⊎_elim (λ z. absurd (eqb-false (total ws) 0 e z)) (λ z. z) (eq-zero-or-pos (total ws))

pub counted_same : (ws : List ℕ) → 0 < total ws → counted ws ≡ ws
unfolding counted
counted_same ws h = rw (ne_eqb (total ws) 0 (λ e. omega arith))

-- the split

pub split_length : (a : ℕ) (ws ks : List ℕ) → length (split a ws ks) ≡ length ws
unfolding split
split_length a ws ks = length_table _ (length ws)

pub split_sum : (a : ℕ) (ws ks : List ℕ) → 0 < total ws → Distinct ks → length ws ≤ length ks → total (split a ws ks) ≡ a
unfolding split
split_sum a ws ks h d l =
    total_table _ (length ws)
    ∙ sums a (total ws) (at ws) (length ws) h (sym (total_sum ws)) (at ks) (λ j m i n. d i j n (omega arith))

pub split_near : (a : ℕ) (ws ks : List ℕ) → 0 < total ws → (i : ℕ) → i < length ws → Near a (total ws) (at ws i) (at (split a ws ks) i)
unfolding split
split_near a ws ks h i l =
    rw (at_table (share a (total ws) (at ws) (at ks) (length ws)) (length ws) i l)
    (near a (total ws) (at ws) (length ws) h (sym (total_sum ws)) (at ks) i)

-- no part of nothing
pub near_zero : {a W w s : ℕ} → Near a W w s → a * w ≡ 0 → s ≡ 0
near_zero {a} {W} {w} {s} h e = omega (arith, lt_of_mul-lt-mul_left W {m = s} {n = 1} (omega (arith, h.above, mul-one W)))

-- the same of `prorate`

module _ (a : ℕ) (ws ks : List ℕ) (some : 0 < length ws) where
  pub length_prorate : length (prorate a ws ks) ≡ length ws
  unfolding prorate
  length_prorate = split_length a (counted ws) ks ∙ length_counted ws

  pub prorate_sum : Distinct ks → length ws ≤ length ks → total (prorate a ws ks) ≡ a
  unfolding prorate
  prorate_sum d l = split_sum a (counted ws) ks (counted_pos ws some) d (omega (arith, length_counted ws))

  pub prorate_near : (i : ℕ) → i < length ws → Near a (total (counted ws)) (at (counted ws) i) (at (prorate a ws ks) i)
  unfolding prorate
  prorate_near i l = split_near a (counted ws) ks (counted_pos ws some) i (omega (arith, length_counted ws))

  pub prorate_zero : 0 < total ws → (i : ℕ) → i < length ws → at ws i ≡ 0 → at (prorate a ws ks) i ≡ 0
  prorate_zero h i l z = near_zero (prorate_near i l) (rw (counted_same ws h, z) (mul-zero a))

-- the array of one number, cut to n

pub take_same : (m n x : ℕ) {r : List ℕ} → r ≡ replicate m x → n ≤ m → take n r ≡ replicate n x
take_same m n x e l = ap (take n) e ∙ go m n l
  where
    go : (m n : ℕ) → n ≤ m → take n (replicate m x) ≡ replicate n x
    go m zero l = refl
    go zero (suc n) l = absurd (omega arith)
    go (suc m) (suc n) l = ap (λ t. x ∷ t) (go m n (omega arith))

pub take_long : (m n x : ℕ) {r : List ℕ} → r ≡ replicate m x → n ≤ m → n ≡ length (take n r)
take_long m n x e l = sym (ap length (take_same m n x e l) ∙ length-replicate n x)

ones_small : (n i : ℕ) → at (replicate n 1) i ≤ 1
ones_small zero i = omega arith
ones_small (suc n) zero = omega arith
ones_small (suc n) (suc i) = ones_small n i

module _ (n : ℕ) {s : List ℕ} (e : s ≡ replicate n 1) where
  pub ones_total : total s ≡ n
  ones_total = ap total e ∙ total_ones n

  pub ones_bounded : (m : ℕ) → 1 ≤ m → Bounded m s
  ones_bounded m l i = omega (arith, ap (λ t. at t i) e, ones_small n i)

pub counted_ones : (ws : List ℕ) → total ws ≡ 0 → counted ws ≡ replicate (length ws) 1
unfolding counted
counted_ones ws z = rw (eq-eqb (total ws) 0 z)

-- `prorate` from `split`

module _ (a : ℕ) (ws ks s₀ : List ℕ) {s₂ : List ℕ} where
  pub from_some : 0 < total ws → s₂ ≡ split a ws ks ++ drop (length ws) s₀ → s₂ ≡ prorate a ws ks ++ drop (length ws) s₀
  unfolding prorate
  from_some h e = rw (counted_same ws h) e

  pub from_none : total ws ≡ 0 → s₂ ≡ split a (replicate (length ws) 1) ks ++ drop (length ws) s₀ → s₂ ≡ prorate a ws ks ++ drop (length ws) s₀
  unfolding prorate
  from_none z e = rw (counted_ones ws z) e

-- the split over n ones, which the code cuts from an array of m
pub evenly : (m n a : ℕ) (ks s₀ : List ℕ) {r s₂ : List ℕ} → r ≡ replicate m 1 → n ≤ m
    → s₂ ≡ split a (take n r) ks ++ drop (length (take n r)) s₀ → s₂ ≡ split a (replicate n 1) ks ++ drop n s₀
evenly m n a ks s₀ e l h = h ∙ ap₂ (λ u k. split a u ks ++ drop k s₀) (take_same m n 1 e l) (sym (take_long m n 1 e l))

-- no share is above the amount by more than one
pub split_small : (a : ℕ) (ws ks : List ℕ) → 0 < total ws → (i : ℕ) → at (split a ws ks) i ≤ a + 1
unfolding split share
split_small a ws ks h i =
    ⊎_elim
    (λ l. rw (at_table (share a (total ws) (at ws) (at ks) (length ws)) (length ws) i l)
    (omega (
      arith,
      sum_one (floor a (total ws) (at ws)) (length ws) i l,
      floors_le a (total ws) (at ws) (length ws) h (sym (total_sum ws)),
      bit_one (ltb (rank (rem a (total ws) (at ws)) (at ks) (length ws) i) (left a (total ws) (at ws) (length ws))),
    )))
    (λ l. omega (arith, get_or-eq_default (split a ws ks) 0 {n = i} (omega (arith, split_length a ws ks))))
    (lt_or_ge i (length ws))

pub prorate_small : (a : ℕ) (ws ks : List ℕ) → 0 < length ws → (i : ℕ) → at (prorate a ws ks) i ≤ a + 1
unfolding prorate
prorate_small a ws ks h i = split_small a (counted ws) ks (counted_pos ws h) i
