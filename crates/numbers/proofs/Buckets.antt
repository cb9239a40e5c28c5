-- Numbers passed one after the other, the bucket of each marked, and one among them that stands twice. Assumes nothing.
use Rattle.std.proofs.Common.{◌≡◌, refl, sym, ap, ◌∙◌, Bool, true, false, List, [], ◌∷◌, ◌++◌, map, ℕ, ◌+◌, ◌%◌, ◌≤◌, ◌<◌, eqb, length, take, get_or, set, replicate, arith}
use Rattle.std.proofs.lemmas.List.{length-set, length-replicate, get_or-take, get_or-set_same, get_or-set_other, get_or-map, length-map, take-map, length-take-le, take_more}
use Rattle.std.specs.List.{list_any}
use mathlib.Core.Logic.{◌⊎◌, inl, inr, ⊎_elim}
use borrow.Author.Tests.{eqb-true, eqb-false}
use Rattle.numbers.specs.Sums.{at}
use Rattle.numbers.specs.Lists.{has, distinct}
use Rattle.numbers.specs.Buckets.{BUCKETS}
use Rattle.numbers.proofs.Sums.{cases}
use Rattle.numbers.proofs.Lists.{true≢false, has_none, has_append, distinct_is, distinct_append}
use Rattle.numbers.proofs.Chains.{any_has_number}

-- the first i numbers: none stands twice, and one that stands among them has its bucket marked
pub record Scanned (xs : List ℕ) (marked : List Bool) (i : ℕ) : Type 0 where
  pub apart : distinct (take i xs) ≡ true
  pub marks : (n : ℕ) → has n (take i xs) ≡ true → get_or marked (n % BUCKETS) false ≡ true
  pub long : length marked ≡ BUCKETS

pub scanned_none : (xs : List ℕ) → Scanned xs (replicate BUCKETS false) 0
unfolding distinct has
scanned_none xs = record { apart = refl; marks = λ n e. true≢false (sym e); long = length-replicate BUCKETS false }

-- what stands in a list with one more number
last_or_before : (n x : ℕ) (xs : List ℕ) → has n (xs ++ (x ∷ [])) ≡ true → (n ≡ x) ⊎ (has n xs ≡ true)
unfolding has
last_or_before n x xs e =
    ⊎_elim
    inr
    (λ f. inl (⊎_elim (eqb-true n x) (λ g. true≢false (sym e ∙ has_append n xs (x ∷ []) f (rw g))) (cases (eqb n x))))
    (cases (has n xs))

-- one more mark leaves the others
still_marked : (marked : List Bool) (b k : ℕ) → b < length marked → get_or marked k false ≡ true → get_or (set marked b true) k false ≡ true
still_marked marked b k l e =
    ⊎_elim
    (λ t. rw (← eqb-true b k t) (get_or-set_same marked b true false l))
    (λ f. get_or-set_other marked b k true false (λ z. eqb-false b k f (sym z)) ∙ e)
    (cases (eqb b k))

-- a number whose bucket is not marked is none of the first i
pub scanned_new : {xs : List ℕ} {marked : List Bool} {i : ℕ} → Scanned xs marked i → (n : ℕ) {was : Bool} → was ≡ get_or marked (n % BUCKETS) false → was ≡ false → has n (take i xs) ≡ false
scanned_new {xs} {marked} {i} s n e f = ⊎_elim (λ t. true≢false (sym (s.marks n t) ∙ sym e ∙ f)) (λ g. g) (cases (has n (take i xs)))

-- the next number n, of element i
module _ {A : Type 0} (number : A → ℕ) (xs : List A) (i : ℕ) {x : A} {n : ℕ} (l : i < length xs) (is : x ≡ get_or xs i x) (e : n ≡ number x) where
  abbrev ns : List ℕ
  ns = map number xs

  within : i < length ns
  within = omega (arith, length-map xs number)

  stands : n ≡ at ns i
  stands = e ∙ ap number is ∙ sym (get_or-map number xs i x 0 l)

  -- whether `contains` finds it among those before, where elements are equal if their numbers are
  pub searched : (eq : A → A → Bool) → ((y z : A) → eq y z ≡ eqb (number y) (number z)) → {p q : Bool} → p ≡ list_any (λ y. eq y x) (take i xs) → p ≡ q → has n (take i ns) ≡ q
  searched eq law f g = rw (e, take-map number i xs) (sym (any_has_number number eq law x (take i xs)) ∙ sym f ∙ g)

  -- it is none of those before
  pub scanned_more : (marked : List Bool) → Scanned ns marked i → has n (take i ns) ≡ false → Scanned ns (set marked (n % BUCKETS) true) (i + 1)
  scanned_more marked s h =
      let b : n % BUCKETS < length marked = omega (arith, s.long) in
      let f : take (i + 1) ns ≡ take i ns ++ (n ∷ []) = rw stands (take_more ns i 0 within) in
      record {
        apart = rw f (distinct_append n (take i ns) s.apart h);
        marks = λ m t.
            ⊎_elim
            (λ q. rw q (get_or-set_same marked (n % BUCKETS) true false b))
            (λ u. still_marked marked (n % BUCKETS) (m % BUCKETS) b (s.marks m u))
            (last_or_before m n (take i ns) (rw (← f) t));
        long = length-set marked (n % BUCKETS) true ∙ s.long;
      }

  -- it is one of those before
  pub scanned_twice : has n (take i ns) ≡ true → distinct ns ≡ false
  scanned_twice h = ⊎_elim (λ t. true≢false (sym h ∙ once t)) (λ f. f) (cases (distinct ns))
    where
      once : distinct ns ≡ true → has n (take i ns) ≡ false
      once d =
          has_none n (take i ns)
          (λ j p q.
          let m : i ≤ length ns = omega (arith, within) in
          let k : j < i = omega (arith, length-take-le i ns m) in
          distinct_is ns d j i k within (sym (get_or-take i ns j 0 k) ∙ q ∙ stands))
