-- The two steps of `split`, `floors` and `serve`, make the shares. Assumes nothing.
use Rattle.std.proofs.Common.{◌≡◌, ℕ, ◌+◌, ◌-◌, ◌<◌, ◌≤◌, ltb, List, ◌++◌, length, drop, sym, ap, ◌∙◌, ap₂, arith}
use Rattle.numbers.specs.Sums.{bit, sum, table, at, total}
use Rattle.proration.specs.Proration.{ahead, floor, rem, before, rank, left, topped, share, split}
use Rattle.numbers.proofs.Sums.{sum_eq, sum_one, table_eq, at_table, length_table, at_front, drop_front, total_sum}
use Rattle.proration.proofs.Shares.{floors_le}

rank_eq : (r s k : ℕ → ℕ) (n : ℕ) → ((i : ℕ) → i < n → r i ≡ s i) → (i : ℕ) → i < n → rank r k n i ≡ rank s k n i
unfolding before
rank_eq r s k n h i l = sum_eq _ _ n (λ j m. ap₂ (λ x y. bit (ahead x (k j) y (k i))) (h j m) (h i l))

module _ (a : ℕ) (ws ks s₀ : List ℕ) (pos : 0 < total ws) {W : ℕ} (whole : W ≡ total ws) where
  abbrev n : ℕ
  n = length ws

  abbrev fl : ℕ → ℕ
  fl = floor a W (at ws)

  whole' : sum (at ws) (length ws) ≡ W
  whole' = sym (total_sum ws) ∙ sym whole

  pub given_le : {x : ℕ} → x ≡ sum fl n → x ≤ a
  given_le e = omega (arith, floors_le a W (at ws) n (omega arith) whole')

  module _ {s₁ : List ℕ} (e₁ : s₁ ≡ table fl n ++ drop n s₀) where
    at_floor : (i : ℕ) → i < n → at s₁ i ≡ fl i
    at_floor i l = ap (λ s. at s i) e₁ ∙ at_front fl n (drop n s₀) i l

    pub floor_small : (i : ℕ) → i < n → at s₁ i ≤ a
    floor_small i l = omega (arith, at_floor i l, sum_one fl n i l, floors_le a W (at ws) n (omega arith) whole')

    pub both_steps : {x : ℕ} {r s₂ : List ℕ} → x ≡ sum fl n → r ≡ table (rem a W (at ws)) n
        → s₂ ≡ table (topped (at s₁) (at r) (at ks) (a - x) (length r)) (length r) ++ drop (length r) s₁ → s₂ ≡ split a ws ks ++ drop n s₀
    unfolding split share left
    both_steps {x} {r} {s₂} e₀ e₂ e₃ =
        e₃
        ∙ ap (λ m. table (topped (at s₁) (at r) (at ks) (a - x) m) m ++ drop m s₁) (ap length e₂ ∙ length_table (rem a W (at ws)) n)
        ∙ ap₂ ◌++◌
        (table_eq _ _ n
        (λ i l. ap₂ (λ f b. f + bit b) (at_floor i l) (ap₂ ltb (rank_eq (at r) (rem a W (at ws)) (at ks) n at_rem i l) (ap (λ y. a - y) e₀))
        ∙ ap (λ x. share a x (at ws) (at ks) n i) whole))
        (ap (drop n) e₁ ∙ drop_front fl n (drop n s₀))
      where
        at_rem : (i : ℕ) → i < n → at r i ≡ rem a W (at ws) i
        at_rem i l = ap (λ s. at s i) e₂ ∙ at_table (rem a W (at ws)) n i l
