-- A test of every element of a list, place by place. Assumes nothing.
use mathlib.Core.Path.{◌≡◌, refl, sym, ap, ◌∙◌}
use mathlib.Core.Bool.{Bool, true, false}
use mathlib.Core.List.{List, [], ◌∷◌}
use Prim.Native.Nat.{ℕ, zero, suc, ◌+◌, ◌-◌, ◌≤◌, ◌<◌}
use native.Mathlib.Omega.{arith}
use native.Mathlib.Numerals.{add-one}
use lib.ListN.{length, get_or, take, drop, length-drop, drop_of_length-le}
use Rattle.std.proofs.lemmas.List.{take_rest}
use lib.Seq.{get_or-take, get_or-drop, length-take-le, drop-cons}
use Rattle.numbers.specs.Lists.{both, every}
use Rattle.numbers.proofs.Lists.{both_fst, both_snd, both_true, both_none}

module _ {A : Type 0} (p : A → Bool) (x : A) where
  pub every_at : (xs : List A) → every p xs ≡ true → (i : ℕ) → i < length xs → p (get_or xs i x) ≡ true
  unfolding every
  every_at [] e i l = absurd (omega arith)
  every_at (y ∷ xs) e zero l = both_fst (p y) _ e
  every_at (y ∷ xs) e (suc i) l = every_at xs (both_snd (p y) _ e) i (omega arith)

  pub at_every : (xs : List A) → ((i : ℕ) → i < length xs → p (get_or xs i x) ≡ true) → every p xs ≡ true
  unfolding every
  at_every [] h = refl
  at_every (y ∷ xs) h = both_true {p = p y} (h 0 (omega arith)) (at_every xs (λ i l. h (suc i) (omega arith)))

  pub one_fails : (xs : List A) (i : ℕ) → i < length xs → p (get_or xs i x) ≡ false → every p xs ≡ false
  unfolding every
  one_fails [] i l e = absurd (omega arith)
  one_fails (y ∷ xs) zero l e = rw e
  one_fails (y ∷ xs) (suc i) l e = rw (one_fails xs i (omega arith) e) (both_none (p y))

  -- ---- up to a place

  pub every_until : (n : ℕ) (xs : List A) → n ≤ length xs → every p (take n xs) ≡ true → (i : ℕ) → i < n → p (get_or xs i x) ≡ true
  every_until n xs l e i m = ap p (sym (get_or-take n xs i x m)) ∙ every_at (take n xs) e i (rw (length-take-le n xs l) m)

  pub until_every : (n : ℕ) (xs : List A) → n ≤ length xs → ((i : ℕ) → i < n → p (get_or xs i x) ≡ true) → every p (take n xs) ≡ true
  until_every n xs l h = at_every (take n xs) (λ i m. let q : i < n = rw (length-take-le n xs l) at m in ap p (get_or-take n xs i x q) ∙ h i q)

  -- ---- from a place on

  pub every_from : (n : ℕ) (xs : List A) → every p (drop n xs) ≡ true → (i : ℕ) → n ≤ i → i < length xs → p (get_or xs i x) ≡ true
  every_from n xs e i l m =
      let q : n + (i - n) ≡ i = omega arith in
      ap p (ap (λ k. get_or xs k x) (sym q) ∙ sym (get_or-drop n xs (i - n) x)) ∙ every_at (drop n xs) e (i - n) (omega (arith, length-drop n xs))

  pub from_every : (n : ℕ) (xs : List A) → ((i : ℕ) → n ≤ i → i < length xs → p (get_or xs i x) ≡ true) → every p (drop n xs) ≡ true
  from_every n xs h = at_every (drop n xs) (λ i l. ap p (get_or-drop n xs i x) ∙ h (n + i) (omega arith) (omega (arith, length-drop n xs)))

  pub every_step : (xs : List A) (i : ℕ) → i < length xs → every p (drop i xs) ≡ both (p (get_or xs i x)) (every p (drop (i + 1) xs))
  unfolding every
  every_step xs i l = rw (add-one i, drop-cons xs i x l)

  pub every_end : (xs : List A) (i : ℕ) → length xs ≤ i → every p (drop i xs) ≡ true
  unfolding every
  every_end xs i l = rw (drop_of_length-le xs {i = i} l)

-- each number of the rest of a list, `xs[n..]`, is 0
pub zero_from : (n : ℕ) (xs : List ℕ) → ((i : ℕ) → i < length (take (length xs - n) (drop n xs)) → get_or (take (length xs - n) (drop n xs)) i 0 ≡ 0)
    → (i : ℕ) → n ≤ i → i < length xs → get_or xs i 0 ≡ 0
zero_from n xs h i l m =
    let q : n + (i - n) ≡ i = omega arith in
    let r : (i : ℕ) → i < length (drop n xs) → get_or (drop n xs) i 0 ≡ 0 = rw take_rest at h in
    ap (λ k. get_or xs k 0) (sym q) ∙ sym (get_or-drop n xs (i - n) 0) ∙ r (i - n) (omega (arith, length-drop n xs))
