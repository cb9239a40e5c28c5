-- In a strict order that is total below N, exactly k of n things have fewer than k before them. Assumes nothing.
use mathlib.Core.Path.{◌≡◌, sym, ap, ap₂, ◌∙◌}
use mathlib.Core.Bool.{Bool, true, false}
use mathlib.Core.Logic.{⊎_elim, ◌⊎◌, inl, inr}
use Prim.Native.Nat.{ℕ, zero, suc, ◌+◌, ◌≤◌, ◌<◌}
use native.Mathlib.Omega.{arith}
use lib.Dec.{ltb}
use borrow.Author.Tests.{lt-ltb, le-ltb}
use Rattle.numbers.specs.Sums.{bit, sum}
use Rattle.numbers.proofs.Sums.{cases, lt_or_ge, sum_eq, sum_le, sum_lt, bit_le, bits_le}

-- two tests of order that agree
ltb_eq : (a b c d : ℕ) → (a < b → c < d) → (c < d → a < b) → ltb a b ≡ ltb c d
ltb_eq a b c d f g =
    ⊎_elim (λ l. lt-ltb a b l ∙ sym (lt-ltb c d (f l)))
    (λ l. le-ltb a b l ∙ sym (le-ltb c d (⊎_elim (λ t. omega (arith, g t)) (λ t. t) (lt_or_ge c d))))
    (lt_or_ge a b)

-- e more before x: none if x is less than r, else one
abbrev Apart : ℕ → ℕ → ℕ → Type 0
Apart e x r = ((e ≡ 0) × (x < r)) ⊎ ((e ≡ 1) × (r ≤ x))

in_low : (e x r k : ℕ) → Apart e x r → r ≤ k → ltb (x + e) (suc k) ≡ ltb x k
in_low e x r k (inl w) h = ltb_eq (x + e) (suc k) x k (λ t. omega arith) (λ t. omega arith)
in_low e x r k (inr w) h = ltb_eq (x + e) (suc k) x k (λ t. omega arith) (λ t. omega arith)

in_high : (e x r k : ℕ) → Apart e x r → k ≤ r → ltb (x + e) k ≡ ltb x k
in_high e x r k (inl w) h = ltb_eq (x + e) k x k (λ t. omega arith) (λ t. omega arith)
in_high e x r k (inr w) h = ltb_eq (x + e) k x k (λ t. omega arith) (λ t. omega arith)

-- how many of n things are before i
abbrev pub before : (ℕ → ℕ → Bool) → ℕ → ℕ → ℕ
before b n i = sum (λ j. bit (b j i)) n

module _ (b : ℕ → ℕ → Bool) (irr : (i : ℕ) → b i i ≡ false) (trans : (i j k : ℕ) → b i j ≡ true → b j k ≡ true → b i k ≡ true) where
  apart : (m i : ℕ) → i < m → (b i m ≡ true) ⊎ (b m i ≡ true) → Apart (bit (b m i)) (before b m i) (before b m m)
  apart m i l (inl t) =
      inl (
        ⊎_elim (λ e. omega (arith, ap bit (trans m i m e t), ap bit (irr m))) (λ e. ap bit e) (cases (b m i)),
        sum_lt _ _ m (λ j _. bit_le _ _ (λ e. trans j i m e t)) i l (omega (arith, ap bit t, ap bit (irr i))),
      )
  apart m i l (inr t) = inr (ap bit t, sum_le _ _ m (λ j _. bit_le _ _ (λ e. trans j m i e t)))

  -- of n things exactly k have fewer than k before them
  module _ (N : ℕ) (tot : (m : ℕ) → m < N → (i : ℕ) → i < m → (b i m ≡ true) ⊎ (b m i ≡ true)) where
    abbrev Right : ℕ → ℕ → Type 0
    Right n k = sum (λ i. bit (ltb (before b n i) k)) n ≡ k

    -- one thing more, which is among the first k + 1
    low : (m k : ℕ) → m < N → before b m m ≤ k → Right m k → Right (suc m) (suc k)
    unfolding sum
    low m k l h r =
        ap₂ ◌+◌
        (sum_eq _ _ m
        (λ i j. ap bit (in_low _ _ _ k (apart m i j (tot m l i j)) h))
        ∙ r)
        (ap bit (lt-ltb (before b m m + bit (b m m)) (suc k) (omega (arith, ap bit (irr m))))) ∙ omega arith

    -- or is not among the first k
    high : (m k : ℕ) → m < N → k ≤ before b m m → Right m k → Right (suc m) k
    unfolding sum
    high m k l h r =
        ap₂ ◌+◌
        (sum_eq _ _ m
        (λ i j. ap bit (in_high _ _ _ k (apart m i j (tot m l i j)) h))
        ∙ r)
        (ap bit (le-ltb (before b m m + bit (b m m)) k (omega arith))) ∙ omega arith

    pub first : (n k : ℕ) → n ≤ N → k ≤ n → sum (λ i. bit (ltb (before b n i) k)) n ≡ k
    unfolding sum
    first zero k l h = omega arith
    first (suc m) zero l h = high m zero l (omega arith) (first m zero (omega arith) (omega arith))
    first (suc m) (suc k) l h = ⊎_elim (λ s. high m (suc k) l s (first m (suc k) (omega arith) (omega (arith, bits_le (λ j. b j m) m)))) (λ s. low m k l (omega arith) (first m k (omega arith) (omega arith))) (lt_or_ge k (before b m m))
