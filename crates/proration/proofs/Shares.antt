-- The shares sum to the amount, and each is less than one unit from the exact proportion. Assumes nothing.
use mathlib.Core.Path.{◌≡◌, sym, ap, ◌∙◌}
use mathlib.Core.Bool.{Bool, true, false}
use mathlib.Core.Logic.{⊎_elim, inl}
use mathlib.Core.List.{List}
use Prim.Native.Nat.{ℕ, ◌+◌, ◌*◌, ◌/◌, ◌%◌, ◌≤◌, ◌<◌}
use native.Mathlib.Nat.{div-add-mod, mod-lt, mul_comm, mul-add, mul-one, mul-zero, mul-sub, le_of_mul-le-mul_left, le_trans, eq-zero-or-pos}
use native.Mathlib.Omega.{arith}
use lib.Dec.{ltb}
use borrow.Author.Tests.{ltb-true, lt-ltb, le-ltb}
use Rattle.numbers.specs.Sums.{bit, sum, at}
use Rattle.proration.specs.Proration.{ahead, floor, rem, before, rank, left, share}
use Rattle.proration.specs.Laws.{Near}
use Rattle.numbers.proofs.Sums.{lt_or_ge, sum_eq, sum_le, sum_add, sum_mul, bit_le, bits_le}
use Rattle.proration.proofs.Ranks.{first}
use Rattle.proration.proofs.Order.{irr, trans, tot, go_ahead}

pub before_le : (rs ks : List ℕ) (n x y : ℕ) → before (at rs) (at ks) n x y ≤ n
unfolding before
before_le rs ks n x y = bits_le (λ j. ahead (at rs j) (at ks j) x y) n

module _ (a W : ℕ) (w : ℕ → ℕ) (n : ℕ) (pos : 0 < W) (whole : sum w n ≡ W) where
  -- W times the whole units, and the remainders, are a * W
  exact : W * sum (floor a W w) n + sum (rem a W w) n ≡ a * W
  exact =
      ap (λ x. x + sum (rem a W w) n) (sym (sum_mul W (floor a W w) n))
      ∙ sym (sum_add (λ i. W * floor a W w i) (rem a W w) n)
      ∙ sum_eq _ _ n (λ i _. div-add-mod (a * w i) W)
      ∙ sum_mul a w n
      ∙ ap (λ x. a * x) whole

  pub floors_le : sum (floor a W w) n ≤ a
  floors_le = le_of_mul-le-mul_left (omega (arith, exact, mul_comm a W)) pos

  -- the remainders are W times what is left
  rems : sum (rem a W w) n ≡ W * left a W w n
  unfolding left
  rems = omega (arith, exact, mul_comm a W, mul-sub W a (sum (floor a W w) n))

  some_le : (x : ℕ) → x < W → x ≤ W * bit (ltb 0 x)
  some_le x l =
      ⊎_elim (λ t. rw (lt-ltb 0 x t, mul-one) (omega arith)) (λ t. omega arith) (lt_or_ge 0 x)

  -- so no more is left than there are remainders above 0
  left_le : left a W w n ≤ sum (λ i. bit (ltb 0 (rem a W w i))) n
  left_le =
      le_of_mul-le-mul_left
      (rw (← rems, ← sum_mul W (λ i. bit (ltb 0 (rem a W w i))) n)
      (sum_le _ _ n (λ i _. some_le (rem a W w i) (mod-lt (a * w i) pos))))
      pos

  left_le_n : left a W w n ≤ n
  left_le_n = omega (arith, left_le, bits_le (λ i. ltb 0 (rem a W w i)) n)

  whole_again : sum (floor a W w) n + left a W w n ≡ a
  unfolding left
  whole_again = omega (arith, floors_le)

  near_of : {v : ℕ} (f r : ℕ) → W * f + r ≡ a * v → r < W → (p : Bool) → (r ≡ 0 → p ≡ false) → Near a W v (f + bit p)
  near_of f r e l true h =
      ⊎_elim (λ z. absurd (omega (arith, ap bit (h z)))) (λ z. record { above = omega (arith, mul-add W f 1, mul-one W); below = omega (arith, mul-add W f 1, mul-one W) })
      (eq-zero-or-pos r)
  near_of f r e l false h = record { above = omega (arith, mul-add W f 0, mul-zero W); below = omega (arith, mul-add W f 0, mul-zero W) }

  module _ (k : ℕ → ℕ) where
    -- a party whose remainder is 0 gets nothing more
    none : (i : ℕ) → rem a W w i ≡ 0 → left a W w n ≤ rank (rem a W w) k n i
    unfolding before
    none i e =
        le_trans left_le
        (sum_le _ _ n
        (λ j _. bit_le (ltb 0 (rem a W w j)) (ahead (rem a W w j) (k j) (rem a W w i) (k i)) (λ t. go_ahead (rem a W w j) (k j) (rem a W w i) (k i) (inl (omega (arith, ltb-true 0 (rem a W w j) t, e))))))

    pub near : (i : ℕ) → Near a W (w i) (share a W w k n i)
    unfolding share
    near i =
        near_of (a * w i / W) (a * w i % W) (div-add-mod (a * w i) W) (mod-lt (a * w i) pos) (ltb (rank (rem a W w) k n i) (left a W w n))
        (λ z. le-ltb (rank (rem a W w) k n i) (left a W w n) (none i z))

    pub sums : ((j : ℕ) → j < n → (i : ℕ) → i < j → k i ≡ k j → ⊥) → sum (share a W w k n) n ≡ a
    unfolding share before
    sums d =
        sum_add (floor a W w) _ n
        ∙ ap (λ x. sum (floor a W w) n + x)
        (first (λ j i. ahead (rem a W w j) (k j) (rem a W w i) (k i)) (λ i. irr (rem a W w i) (k i))
        (λ i j l. trans (rem a W w i) (k i) (rem a W w j) (k j) (rem a W w l) (k l)) n
        (λ m l i h. tot (rem a W w i) (k i) (rem a W w m) (k m) (d m l i h)) n (left a W w n) (omega arith) left_le_n)
        ∙ whole_again
