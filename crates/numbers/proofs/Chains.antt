-- What a chain of iterators answers, in the words of `Lists` and `Sums`. Assumes nothing.
use Rattle.std.proofs.Common.{◌≡◌, refl, ap, ◌∙◌, Bool, true, false, not, ◌||◌, ap₂, sym, eqb, List, [], ◌∷◌, map, ℕ, ◌+◌, ◌*◌, ◌≤◌, ◌<◌, zero, suc, length, arith}
use Rattle.std.proofs.lemmas.List.{map-id}
use Rattle.std.specs.List.{list_any, fold, sum, AllWithin, HoldsAt}
use Rattle.std.specs.Int.{from_bool}
use native.Mathlib.Nat.{suc-mul}
use mathlib.Core.Logic.{⊎_elim}
use borrow.Author.Tests.{eqb-true, eqb-false, eq-eqb, ne_eqb}
use Rattle.numbers.proofs.Sums.{cases}
use Rattle.numbers.proofs.Lists.{both_true, both_none}
use Rattle.std.specs.Bool.{MatchBool}
use Rattle.numbers.specs.Lists.{both, either, every, has}
use Rattle.numbers.specs.Sums.{bit, total, Bounded}

either_is_or : (p q : Bool) → (p || q) ≡ either p q
either_is_or true q = refl
either_is_or false q = refl

-- the cases of `all`, as `cases_from_all` of std gives them
pub every_from_all : {A : Type 0} (p : A → Bool) (xs : List A) (r : Bool)
    → MatchBool r (AllWithin (λ x. p x ≡ true) xs 0 (length xs)) ((k : ℕ) × (k < length xs) × HoldsAt (λ x. p x ≡ false) xs k) → r ≡ every p xs
unfolding every
every_from_all p [] true h = refl
every_from_all p [] false h = absurd (omega (arith, h.1))
every_from_all p (x ∷ xs) true h =
    sym (both_true {p = p x} (h 0 x (omega arith) (omega arith)) (sym (every_from_all p xs true (λ k d l m. h (suc k) d (omega arith) (omega arith)))))
every_from_all p (x ∷ xs) false h = go h.0 h.1 h.2 (λ k l q. every_from_all p xs false (k, l, q))
  where
    go : (k : ℕ) → k < suc (length xs) → HoldsAt (λ y. p y ≡ false) (x ∷ xs) k → ((i : ℕ) → i < length xs → HoldsAt (λ y. p y ≡ false) xs i → false ≡ every p xs) → false ≡ both (p x) (every p xs)
    go zero l q e = rw (q x)
    go (suc k) l q e = rw (← e k (omega arith) (λ d. q d)) (sym (both_none (p x)))

-- and of `any`
pub fails_from_any : {A : Type 0} (p : A → Bool) (xs : List A) (r : Bool)
    → MatchBool r ((k : ℕ) × (k < length xs) × HoldsAt (λ x. p x ≡ false) xs k) (AllWithin (λ x. p x ≡ true) xs 0 (length xs)) → r ≡ not (every p xs)
fails_from_any p xs true h = ap not (every_from_all p xs false h)
fails_from_any p xs false h = ap not (every_from_all p xs true h)

eqb_comm : (a b : ℕ) → eqb a b ≡ eqb b a
eqb_comm a b =
    ⊎_elim (λ t. t ∙ sym (eq-eqb b a (sym (eqb-true a b t)))) (λ f. f ∙ sym (ne_eqb b a (λ e. eqb-false a b f (sym e)))) (cases (eqb a b))

-- `contains`, of elements that are equal where their numbers are
pub any_has_number : {A : Type 0} (number : A → ℕ) (eq : A → A → Bool) → ((x y : A) → eq x y ≡ eqb (number x) (number y))
    → (x : A) (xs : List A) → list_any (λ y. eq y x) xs ≡ has (number x) (map number xs)
unfolding has
any_has_number number eq law x [] = refl
any_has_number number eq law x (y ∷ xs) =
    either_is_or (eq y x) (list_any (λ z. eq z x) xs) ∙ ap₂ either (law y x ∙ eqb_comm (number y) (number x)) (any_has_number number eq law x xs)

-- and of numbers
pub any_is_has : (n : ℕ) (xs : List ℕ) → list_any (λ x. eqb x n) xs ≡ has n xs
any_is_has n xs = any_has_number (λ x. x) eqb (λ x y. refl) n xs ∙ ap (has n) (map-id xs)

-- `sum`
fold_is_total : (a : ℕ) (xs : List ℕ) → fold (λ b x. b + x) a xs ≡ a + total xs
unfolding total
fold_is_total a [] = omega arith
fold_is_total a (x ∷ xs) = omega (arith, fold_is_total (a + x) xs)

pub sum_is_total : (xs : List ℕ) → sum xs ≡ total xs
sum_is_total xs = omega (arith, fold_is_total 0 xs)

pub total_fits : (m : ℕ) (xs : List ℕ) → Bounded m xs → total xs ≤ length xs * m
unfolding total
total_fits m [] h = omega arith
total_fits m (x ∷ xs) h = omega (arith, h 0, total_fits m xs (λ i. h (suc i)), suc-mul (length xs) m)

-- a test as a number
pub bit_of : (p : Bool) → from_bool p ≡ bit p
bit_of true = refl
bit_of false = refl

pub bit_from : {p q : Bool} {n : ℕ} → n ≡ from_bool p → p ≡ q → n ≡ bit q
bit_from {p} e f = e ∙ bit_of p ∙ ap bit f
