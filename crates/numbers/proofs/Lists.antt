-- Laws of tests and of lists. Assumes nothing.
use mathlib.Core.Path.{◌≡◌, refl, sym, ap, ap₂, ◌∙◌, subst, subst⁻¹}
use mathlib.Core.Bool.{Bool, true, false, not, ◌&&◌}
use mathlib.Core.List.{List, [], ◌∷◌, ◌++◌, map, zip_with}
use mathlib.Core.Logic.{⊎_elim}
use Prim.Native.Nat.{ℕ, zero, suc, ◌+◌, ◌≤◌, ◌<◌}
use native.Mathlib.Omega.{arith}
use native.Mathlib.Numerals.{add-one}
use lib.Dec.{T, eqb, ltb}
use lib.ListN.{length, get_or, take, set}
use Rattle.std.proofs.lemmas.List.{map-id, append_assoc, set-append_right}
use lib.Seq.{take-suc}
use borrow.Author.Tests.{ltb-true, eqb-false, eq-eqb, ne_eqb, not-true}
use Rattle.numbers.specs.Sums.{table, at}
use Rattle.numbers.specs.Lists.{both, either, every, has, distinct, Distinct, rising, flat}
use Rattle.numbers.proofs.Sums.{lt_or_ge}

-- ---- tests

pub true≢false : {A : Type 0} → true ≡ false → A
true≢false e = absurd (subst T e tt)

pub never : {A : Type 0} → false ≡ true → A
never e = true≢false (sym e)

pub both_fst : (p q : Bool) → both p q ≡ true → p ≡ true
both_fst true q e = refl
both_fst false q e = true≢false (sym e)

pub both_snd : (p q : Bool) → both p q ≡ true → q ≡ true
both_snd true q e = e
both_snd false q e = true≢false (sym e)

pub both_true : {p q : Bool} → p ≡ true → q ≡ true → both p q ≡ true
both_true e f = rw (e, f)

pub both_end : (p : Bool) → both p true ≡ p
both_end true = refl
both_end false = refl

pub both_none : (p : Bool) → both p false ≡ false
both_none true = refl
both_none false = refl

pub both_and : (p q r : Bool) → both p (both q r) ≡ both (p && q) r
both_and true q r = refl
both_and false q r = refl

pub and_both : (p q r : Bool) → (both p q && r) ≡ both p (q && r)
and_both true q r = refl
and_both false q r = refl

pub either_end : (p : Bool) → either p true ≡ true
either_end true = refl
either_end false = refl

pub either_none : (p : Bool) → either p false ≡ p
either_none true = refl
either_none false = refl

pub either_fst : (p q : Bool) → either p q ≡ false → p ≡ false
either_fst true q e = true≢false e
either_fst false q e = refl

pub either_snd : (p q : Bool) → either p q ≡ false → q ≡ false
either_snd true q e = true≢false e
either_snd false q e = e

-- ---- every element

abbrev pub All : {A : Type 0} → (A → Type 0) → List A → Type 0
All P [] = Unit {0}
All P (x ∷ xs) = P x × All P xs

module _ {A : Type 0} where
  pub all_every : (p : A → Bool) (xs : List A) → every p xs ≡ true → All (λ x. p x ≡ true) xs
  unfolding every
  all_every p [] e = tt
  all_every p (x ∷ xs) e = (both_fst _ _ e, all_every p xs (both_snd (p x) _ e))

  pub every_all : (p : A → Bool) (xs : List A) → All (λ x. p x ≡ true) xs → every p xs ≡ true
  unfolding every
  every_all p [] h = refl
  every_all p (x ∷ xs) h = both_true h.0 (every_all p xs h.1)

  pub all_map : (P Q : A → Type 0) → ((x : A) → P x → Q x) → (xs : List A) → All P xs → All Q xs
  all_map P Q f [] h = tt
  all_map P Q f (x ∷ xs) h = (f x h.0, all_map P Q f xs h.1)

  pub all_map₂ : (P Q R : A → Type 0) → ((x : A) → P x → Q x → R x) → (xs : List A) → All P xs → All Q xs → All R xs
  all_map₂ P Q R f [] h k = tt
  all_map₂ P Q R f (x ∷ xs) h k = (f x h.0 k.0, all_map₂ P Q R f xs h.1 k.1)

  pub all_append : (P : A → Type 0) (xs ys : List A) → All P xs → All P ys → All P (xs ++ ys)
  all_append P [] ys h k = k
  all_append P (x ∷ xs) ys h k = (h.0, all_append P xs ys h.1 k)

  pub all_table : (P : A → Type 0) (f : ℕ → A) (n : ℕ) → ((i : ℕ) → i < n → P (f i)) → All P (table f n)
  unfolding table
  all_table P f zero h = tt
  all_table P f (suc n) h = all_append P (table f n) (f n ∷ []) (all_table P f n (λ i l. h i (omega arith))) (h n (omega arith), tt)

  -- of every element and its neighbour in the other list
  pub zip_length : {B C : Type 0} (f : A → B → C) (xs : List A) (ys : List B) → length xs ≡ length ys → length (zip_with f xs ys) ≡ length xs
  unfolding zip_with
  zip_length f [] ys e = refl
  zip_length f (x ∷ xs) [] e = absurd (omega arith)
  zip_length f (x ∷ xs) (y ∷ ys) e = ap suc (zip_length f xs ys (omega arith))

  -- a function of the first list's elements alone
  pub map_zip : {B C D : Type 0} (g : C → D) (h : A → D) (f : A → B → C) → ((x : A) (y : B) → g (f x y) ≡ h x)
      → (xs : List A) (ys : List B) → length xs ≡ length ys → map g (zip_with f xs ys) ≡ map h xs
  unfolding zip_with
  map_zip g h f e [] ys l = refl
  map_zip g h f e (x ∷ xs) [] l = absurd (omega arith)
  map_zip g h f e (x ∷ xs) (y ∷ ys) l = ap₂ ◌∷◌ (e x y) (map_zip g h f e xs ys (omega arith))

  pub all_zip : {B C : Type 0} (P : A → Type 0) (Q : B → Type 0) (R : C → Type 0) (f : A → B → C) → ((x : A) (y : B) → P x → Q y → R (f x y))
      → (xs : List A) (ys : List B) → All P xs → All Q ys → All R (zip_with f xs ys)
  unfolding zip_with
  all_zip P Q R f g [] ys h k = tt
  all_zip P Q R f g (x ∷ xs) [] h k = tt
  all_zip P Q R f g (x ∷ xs) (y ∷ ys) h k = (g x y h.0 k.0, all_zip P Q R f g xs ys h.1 k.1)

  pub map_append : {B : Type 0} (f : A → B) (xs ys : List A) → map f (xs ++ ys) ≡ map f xs ++ map f ys
  map_append f [] ys = refl
  map_append f (x ∷ xs) ys = ap (λ t. f x ∷ t) (map_append f xs ys)

  pub map_map : {B C : Type 0} (g : B → C) (f : A → B) (xs : List A) → map g (map f xs) ≡ map (λ x. g (f x)) xs
  map_map g f [] = refl
  map_map g f (x ∷ xs) = ap (λ t. g (f x) ∷ t) (map_map g f xs)

  pub map_eq : {B : Type 0} (f g : A → B) → ((x : A) → f x ≡ g x) → (xs : List A) → map f xs ≡ map g xs
  map_eq f g e [] = refl
  map_eq f g e (x ∷ xs) = ap₂ ◌∷◌ (e x) (map_eq f g e xs)

  pub flat_append : (xss yss : List (List A)) → flat (xss ++ yss) ≡ flat xss ++ flat yss
  unfolding flat
  flat_append [] yss = refl
  flat_append (xs ∷ xss) yss = ap (λ t. xs ++ t) (flat_append xss yss) ∙ sym (append_assoc xs (flat xss) (flat yss))

  pub set_append_right : (xs ys : List A) (i : ℕ) (a : A) → set (xs ++ ys) (length xs + i) a ≡ xs ++ set ys i a
  set_append_right xs ys i a = set-append_right xs ys (length xs) (length xs + i) a refl (omega arith) ∙ ap (λ k. xs ++ set ys k a) (omega arith)

  pub every_append : (p : A → Bool) (xs ys : List A) → every p xs ≡ true → every p ys ≡ true → every p (xs ++ ys) ≡ true
  unfolding every
  every_append p [] ys e f = f
  every_append p (x ∷ xs) ys e f = both_true {p = p x} (both_fst (p x) _ e) (every_append p xs ys (both_snd (p x) _ e) f)

  -- one element more
  pub every_more : (p : A → Bool) (d : A) (xs : List A) (i : ℕ) → i < length xs → (every p (take i xs) && p (get_or xs i d)) ≡ every p (take (suc i) xs)
  unfolding every
  every_more p d [] i l = absurd (omega arith)
  every_more p d (x ∷ xs) zero l = sym (both_end (p x))
  every_more p d (x ∷ xs) (suc i) l = and_both (p x) _ _ ∙ ap (both (p x)) (every_more p d xs i (omega arith))

-- ---- distinct numbers

-- numbers of their own width, as numbers
pub distinct_map : (xs : List ℕ) → distinct (map (λ x. x) xs) ≡ distinct xs
distinct_map xs = ap distinct (map-id xs)

pub has_at : (n : ℕ) (xs : List ℕ) (i : ℕ) → i < length xs → at xs i ≡ n → has n xs ≡ true
unfolding has
has_at n [] i l e = absurd (omega arith)
has_at n (x ∷ xs) zero l e = rw (eq-eqb n x (sym e))
has_at n (x ∷ xs) (suc i) l e = rw (has_at n xs i (omega arith) e) (either_end (eqb n x))

pub has_none : (n : ℕ) (xs : List ℕ) → ((i : ℕ) → i < length xs → at xs i ≡ n → ⊥) → has n xs ≡ false
unfolding has
has_none n [] h = refl
has_none n (x ∷ xs) h = rw (ne_eqb n x (λ e. h 0 (omega arith) (sym e))) (has_none n xs (λ i l e. h (suc i) (omega arith) e))

pub distinct_is : (xs : List ℕ) → distinct xs ≡ true → Distinct xs
unfolding distinct
distinct_is [] e i j l m h = absurd (omega arith)
distinct_is (x ∷ xs) e zero zero l m h = absurd (omega arith)
distinct_is (x ∷ xs) e zero (suc j) l m h = true≢false (sym (has_at x xs j (omega arith) (sym h)) ∙ not-true _ (both_fst _ _ e))
distinct_is (x ∷ xs) e (suc i) zero l m h = absurd (omega arith)
distinct_is (x ∷ xs) e (suc i) (suc j) l m h = distinct_is xs (both_snd (not (has x xs)) _ e) i j (omega arith) (omega arith) h

pub has_append : (n : ℕ) (xs ys : List ℕ) → has n xs ≡ false → has n ys ≡ false → has n (xs ++ ys) ≡ false
unfolding has
has_append n [] ys e f = f
has_append n (x ∷ xs) ys e f = rw (either_fst (eqb n x) (has n xs) e) (has_append n xs ys (either_snd (eqb n x) _ e) f)

pub distinct_append : (n : ℕ) (xs : List ℕ) → distinct xs ≡ true → has n xs ≡ false → distinct (xs ++ (n ∷ [])) ≡ true
unfolding distinct has
distinct_append n [] e f = refl
distinct_append n (x ∷ xs) e f =
    both_true
    (ap not (has_append x xs (n ∷ []) (not-true _ (both_fst _ _ e)) (rw (ne_eqb x n (λ z. eqb-false n x (either_fst _ _ f) (sym z))))))
    (distinct_append n xs (both_snd (not (has x xs)) _ e) (either_snd (eqb n x) _ f))

-- rising numbers are distinct
pub rising_has : (n x : ℕ) (xs : List ℕ) → n < x → rising (x ∷ xs) ≡ true → has n (x ∷ xs) ≡ false
unfolding has rising
rising_has n x [] l e = rw (ne_eqb n x (λ z. omega arith))
rising_has n x (y ∷ xs) l e =
    rw (ne_eqb n x (λ z. omega arith)) (rising_has n y xs (omega (arith, ltb-true x y (both_fst _ _ e))) (both_snd (ltb x y) _ e))

pub rising_distinct : (xs : List ℕ) → rising xs ≡ true → distinct xs ≡ true
unfolding distinct rising
rising_distinct [] e = refl
rising_distinct (x ∷ []) e = unfold has in refl
rising_distinct (x ∷ (y ∷ xs)) e =
    both_true (ap not (rising_has x y xs (ltb-true x y (both_fst _ _ e)) (both_snd (ltb x y) _ e))) (rising_distinct (y ∷ xs) (both_snd (ltb x y) _ e))

-- ---- a search of a list, place by place

pub scan_none : (n : ℕ) → has n [] ≡ false
unfolding has
scan_none n = refl

pub scan_more : (n : ℕ) (xs : List ℕ) (i : ℕ) → i < length xs → has n (take i xs) ≡ false → (get_or xs i 0 ≡ n → ⊥) → has n (take (i + 1) xs) ≡ false
unfolding has
scan_more n xs i l h e = rw (add-one, take-suc xs i 0 l) (has_append n (take i xs) (get_or xs i 0 ∷ []) h (rw (ne_eqb n (get_or xs i 0) (λ z. e (sym z)))))

-- what holds from m up to i, and at i, holds up to i + 1
pub passed : (P : ℕ → Type 0) (m i : ℕ) → ((k : ℕ) → m ≤ k → k < i → P k) → P i → (k : ℕ) → m ≤ k → k < i + 1 → P k
passed P m i h p k l n = ⊎_elim (λ q. h k l q) (λ q. let e : k ≡ i = omega arith in subst⁻¹ P e p) (lt_or_ge k i)
