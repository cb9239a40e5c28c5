-- Who is served: what goes before a cut, if those are c parties, are those with fewer than c before them. Assumes nothing.
use Rattle.std.proofs.Common.{◌≡◌, ℕ, ◌+◌, ◌<◌, ◌≤◌, true, false, ltb, List, ◌++◌, length, drop, sym, ap, ◌∙◌, ⊎_elim, arith, take-append-drop, le-ltb, lt-ltb}
use Rattle.numbers.specs.Sums.{bit, table, at}
use Rattle.proration.specs.Proration.{ahead, before, rank, topped}
use Rattle.split.specs.Cut.{cut_at}
use Rattle.numbers.proofs.Sums.{cases, sum_le, sum_lt, bit_le, table_eq, table_take}
use Rattle.proration.proofs.Order.{irr, trans, past}

module _ (r k : ℕ → ℕ) (n x y : ℕ) where
  within : (i : ℕ) → i < n → ahead (r i) (k i) x y ≡ true → rank r k n i < before r k n x y
  unfolding before
  within i l t =
      sum_lt _ _ n (λ j _. bit_le _ _ (λ e. trans (r j) (k j) (r i) (k i) x y e t)) i l
      (omega (arith, ap bit t, ap bit (irr (r i) (k i))))

  beyond : (i : ℕ) → ahead (r i) (k i) x y ≡ false → before r k n x y ≤ rank r k n i
  unfolding before
  beyond i f = sum_le _ _ n (λ j _. bit_le _ _ (λ e. past (r j) (k j) x y (r i) (k i) e f))

  module _ {c : ℕ} (cut : before r k n x y ≡ c) where
    pub at_cut : (i : ℕ) → i < n → ahead (r i) (k i) x y ≡ ltb (rank r k n i) c
    at_cut i l =
        ⊎_elim (λ t. t ∙ sym (lt-ltb (rank r k n i) c (omega (arith, within i l t))))
        (λ f. f ∙ sym (le-ltb (rank r k n i) c (omega (arith, beyond i f))))
        (cases (ahead (r i) (k i) x y))

    pub by_cut : (s : ℕ → ℕ) → table (cut_at s r k x y) n ≡ table (topped s r k c n) n
    by_cut s = table_eq _ _ n (λ i l. ap (λ p. s i + bit p) (at_cut i l))

-- with nothing left over the shares stay
pub none_left : (r k : ℕ → ℕ) (s : List ℕ) (n : ℕ) → n ≤ length s → {c : ℕ} → c ≡ 0 → s ≡ table (topped (at s) r k c n) n ++ drop n s
none_left r k s n l {c} e =
    sym (take-append-drop n s)
    ∙ ap (λ t. t ++ drop n s) (sym (table_take 0 s n l) ∙ table_eq (at s) (topped (at s) r k c n) n (λ i _. same i))
  where
    same : (i : ℕ) → at s i ≡ topped (at s) r k c n i
    same i = rw (e, le-ltb (rank r k n i) 0 (omega arith)) (omega arith)
