-- The invariant of a loop that fills a buffer from its start. Assumes nothing.
use mathlib.Core.Path.{◌≡◌, refl, sym, ap, ◌∙◌}
use mathlib.Core.List.{List, [], ◌∷◌, ◌++◌, append_assoc, append-nil}
use Prim.Native.Nat.{ℕ, suc, ◌+◌, ◌<◌}
use native.Mathlib.Omega.{arith}
use native.Mathlib.Numerals.{add-one}
use lib.ListN.{length, get_or, drop, set, length-set, drop_of_length-le}
use lib.Seq.{get_or_at, set_at, drop-cons}
use Rattle.numbers.specs.Sums.{table}
use Rattle.numbers.proofs.Sums.{length_table}

-- d is d₀ with its first i elements replaced by f 0 , .. , f (i - 1)
pub record Filled {A : Type 0} (f : ℕ → A) (d₀ : List A) (i : ℕ) (d : List A) : Type 0 where
  pub is : d ≡ table f i ++ drop i d₀
  pub long : length d ≡ length d₀

module _ {A : Type 0} (f : ℕ → A) (d₀ : List A) where
  pub fill_none : Filled f d₀ 0 d₀
  unfolding table
  fill_none = record { is = refl; long = refl }

  fill_more : (i : ℕ) (x : A) → i < length d₀ → set (table f i ++ drop i d₀) i (f i) ≡ table f (suc i) ++ drop (suc i) d₀
  unfolding table
  fill_more i x h =
      rw (drop-cons d₀ i x h, set_at (table f i) (get_or d₀ i x) (drop (suc i) d₀) (f i) i (length_table f i))
      (sym (append_assoc (table f i) (f i ∷ []) (drop (suc i) d₀)))

module _ {A : Type 0} {f : ℕ → A} {d₀ d : List A} {i : ℕ} (h : Filled f d₀ i d) where
  pub fill_step : i < length d₀ → {x : A} → x ≡ f i → Filled f d₀ (i + 1) (set d i x)
  fill_step l {x} e =
      record { is = rw (e, h.is, add-one) (fill_more f d₀ i x l); long = rw length-set h.long }

  -- the next element is still the old one
  pub fill_next : (x : A) → i < length d₀ → get_or d i x ≡ get_or d₀ i x
  fill_next x l =
      rw (h.is, drop-cons d₀ i x l) (get_or_at (table f i) (get_or d₀ i x) (drop (suc i) d₀) x i (length_table f i))

  pub fill_end : {n : ℕ} → i ≡ n → d ≡ table f n ++ drop n d₀
  fill_end {n} e = h.is ∙ ap (λ k. table f k ++ drop k d₀) e

  pub fill_all : length d₀ ≡ i → d ≡ table f i
  fill_all e = h.is ∙ ap (λ t. table f i ++ t) (drop_of_length-le d₀ {i = i} (omega arith)) ∙ append-nil (table f i)
