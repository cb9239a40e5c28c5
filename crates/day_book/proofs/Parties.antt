-- Splits over numbered parties: what stands beside each party, in order, is the list of shares. Assumes nothing.
use mathlib.Core.Path.{◌≡◌, refl, sym, ap, ap₂, ◌∙◌, subst⁻¹}
use mathlib.Core.Bool.{Bool, true, false, not}
use mathlib.Core.List.{List, [], ◌∷◌, map, zip_with}
use Prim.Native.Nat.{ℕ}
use native.Mathlib.Omega.{arith}
use lib.Dec.{eqb}
use lib.IntN.{ℤ}
use lib.ListN.{length, length-map}
use borrow.Author.Tests.{eqb-true, eq-eqb, not-true}
use Rattle.numbers.specs.Sums.{pick}
use Rattle.numbers.specs.Lists.{either, has, distinct}
use Rattle.numbers.proofs.Lists.{All, never, both_fst, both_snd, either_fst, either_snd}
use Rattle.proration.specs.Proration.{prorateZ}
use Rattle.proration.proofs.Signs.{lengthZ}
use Rattle.day_book.specs.Book.{beside, part}

-- equal at each element of which P holds
pub map_all : {A B : Type 0} (P : A → Type 0) (f g : A → B) → ((x : A) → P x → f x ≡ g x) → (xs : List A) → All P xs → map f xs ≡ map g xs
map_all P f g e [] h = refl
map_all P f g e (x ∷ xs) h = ap₂ ◌∷◌ (e x h.0) (map_all P f g e xs h.1)

pub others : (n : ℕ) (ns : List ℕ) → has n ns ≡ false → All (λ m. eqb n m ≡ false) ns
unfolding has
others n [] e = tt
others n (m ∷ ns) e = (either_fst (eqb n m) _ e, others n ns (either_snd (eqb n m) _ e))

pub all_has : (P : ℕ → Type 0) (ns : List ℕ) → All P ns → (n : ℕ) → has n ns ≡ true → P n
unfolding has
all_has P [] h n e = never e
all_has P (m ∷ ns) h n e = go (eqb n m) refl e (all_has P ns h.1 n)
  where
    go : (p : Bool) → eqb n m ≡ p → either p (has n ns) ≡ true → (has n ns ≡ true → P n) → P n
    go true q e r = subst⁻¹ P (eqb-true n m q) h.0
    go false q e r = r e

-- each element with what stands beside it
pub zip_beside : {A B : Type 0} (f : A → ℤ → B) (g : ℕ → A) (ns : List ℕ) (zs : List ℤ) → distinct ns ≡ true → length ns ≡ length zs
    → zip_with f (map g ns) zs ≡ map (λ n. f (g n) (beside ns zs n)) ns
unfolding zip_with beside distinct
zip_beside f g [] zs d l = refl
zip_beside f g (n ∷ ns) [] d l = absurd (omega arith)
zip_beside f g (n ∷ ns) (z ∷ zs) d l =
    ap₂ ◌∷◌ (ap (λ p. f (g n) (pick p z (beside ns zs n))) (sym (eq-eqb n n refl)))
    (zip_beside f g ns zs (both_snd (not (has n ns)) _ d) (omega arith)
    ∙ map_all (λ m. eqb n m ≡ false) _ _ (λ m e. ap (λ p. f (g m) (pick p z (beside ns zs m))) (sym e)) ns
    (others n ns (not-true _ (both_fst _ _ d))))

zip_second : {A : Type 0} (xs : List A) (zs : List ℤ) → length xs ≡ length zs → zip_with (λ x z. z) xs zs ≡ zs
unfolding zip_with
zip_second [] [] l = refl
zip_second [] (z ∷ zs) l = absurd (omega arith)
zip_second (x ∷ xs) [] l = absurd (omega arith)
zip_second (x ∷ xs) (z ∷ zs) l = ap (λ t. z ∷ t) (zip_second xs zs (omega arith))

-- in order they are the list
pub beside_all : (ns : List ℕ) (zs : List ℤ) → distinct ns ≡ true → length ns ≡ length zs → map (beside ns zs) ns ≡ zs
beside_all ns zs d l =
    sym (zip_beside (λ n z. z) (λ n. n) ns zs d l) ∙ zip_second (map (λ n. n) ns) zs (length-map ns (λ n. n) ∙ l)

-- ---- shares

module _ (A : ℤ) (weight : ℕ → ℕ) (ps : List ℕ) where
  pub parts_long : length ps ≡ length (prorateZ A (map weight ps) ps)
  parts_long = sym (lengthZ A (map weight ps) ps ∙ length-map ps weight)

  pub parts_all : distinct ps ≡ true → map (part A weight ps) ps ≡ prorateZ A (map weight ps) ps
  unfolding part
  parts_all d = beside_all ps (prorateZ A (map weight ps) ps) d parts_long

  -- each element with its party's share
  pub zip_parts : {X Y : Type 0} (f : X → ℤ → Y) (g : ℕ → X) → distinct ps ≡ true
      → zip_with f (map g ps) (prorateZ A (map weight ps) ps) ≡ map (λ p. f (g p) (part A weight ps p)) ps
  unfolding part
  zip_parts f g d = zip_beside f g ps (prorateZ A (map weight ps) ps) d parts_long
