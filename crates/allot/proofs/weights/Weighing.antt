-- The cells of a user's kinds, and the weights made of them. Assumes nothing.
use mathlib.Core.Path.{◌≡◌, refl, sym, ap, ap₂, ◌∙◌}
use mathlib.Core.Bool.{Bool, true, false}
use mathlib.Core.List.{List, [], ◌∷◌, map, zip_with}
use Prim.Native.Nat.{ℕ, zero, suc, ◌+◌, ◌*◌, ◌≤◌, ◌<◌}
use native.Mathlib.Omega.{arith}
use lib.IntN.{ℤ, pos, nat_abs}
use lib.ListN.{length, get_or, drop, length-map}
use lib.Seq.{get_or-take, get_or-drop}
use Rattle.numbers.specs.Sums.{pick, atZ, Bounded}
use Rattle.point_day.specs.Limits.{USERS, CELLS, KINDS}
use Rattle.point_day.specs.Calls.{by_basis}
use Rattle.point_day.specs.Struct.{kinds_of}
use Rattle.point_day.proofs.Arrays.{Full}
use Rattle.state.proofs.Totals.{kinds_long}
use Rattle.allot.specs.UserWeights.{consumption_and_losses}

-- ---- five of them

module _ {A : Type 0} (x : A) where
  five_list : (xs : List A) → length xs ≡ KINDS → xs ≡ get_or xs 0 x ∷ get_or xs 1 x ∷ get_or xs 2 x ∷ get_or xs 3 x ∷ get_or xs 4 x ∷ []
  five_list [] e = absurd (omega arith)
  five_list (a ∷ []) e = absurd (omega arith)
  five_list (a ∷ (b ∷ [])) e = absurd (omega arith)
  five_list (a ∷ (b ∷ (c ∷ []))) e = absurd (omega arith)
  five_list (a ∷ (b ∷ (c ∷ (d ∷ [])))) e = absurd (omega arith)
  five_list (a ∷ (b ∷ (c ∷ (d ∷ (f ∷ []))))) e = refl
  five_list (a ∷ (b ∷ (c ∷ (d ∷ (f ∷ (g ∷ xs)))))) e = absurd (omega arith)

five_eq : {A : Type 0} {a b c d e a' b' c' d' e' : A} → a ≡ a' → b ≡ b' → c ≡ c' → d ≡ d' → e ≡ e'
    → ◌≡◌ {A = List A} (a ∷ b ∷ c ∷ d ∷ e ∷ []) (a' ∷ b' ∷ c' ∷ d' ∷ e' ∷ [])
five_eq p q r s t = λ i. p i ∷ q i ∷ r i ∷ s i ∷ t i ∷ []

pub bounded_five : (m a b c d e : ℕ) → a ≤ m → b ≤ m → c ≤ m → d ≤ m → e ≤ m → Bounded m (a ∷ b ∷ c ∷ d ∷ e ∷ [])
bounded_five m a b c d e p q r s t zero = p
bounded_five m a b c d e p q r s t (suc zero) = q
bounded_five m a b c d e p q r s t (suc (suc zero)) = r
bounded_five m a b c d e p q r s t (suc (suc (suc zero))) = s
bounded_five m a b c d e p q r s t (suc (suc (suc (suc zero)))) = t
bounded_five m a b c d e p q r s t (suc (suc (suc (suc (suc i))))) = omega arith

-- the cells of a slot, by places of the array
kinds_are : (xs : List ℤ) (s : ℕ) → KINDS * s + KINDS ≤ length xs
    → kinds_of s xs ≡ atZ xs (KINDS * s) ∷ atZ xs (KINDS * s + 1) ∷ atZ xs (KINDS * s + 2) ∷ atZ xs (KINDS * s + 3) ∷ atZ xs (KINDS * s + 4) ∷ []
kinds_are xs s l =
    let z : KINDS * s + 0 ≡ KINDS * s = omega arith in
    five_list (pos 0) (kinds_of s xs) (kinds_long xs s l) ∙ five_eq (place 0 (omega arith) ∙ ap (atZ xs) z) (place 1 (omega arith)) (place 2 (omega arith)) (place 3 (omega arith)) (place 4 (omega arith))
  where
    place : (k : ℕ) → k < KINDS → get_or (kinds_of s xs) k (pos 0) ≡ atZ xs (KINDS * s + k)
    place k m = get_or-take KINDS (drop (KINDS * s) xs) k (pos 0) m ∙ get_or-drop (KINDS * s) xs k (pos 0)

-- ---- the weights of a user's kinds

module _ (cs ls : List ℤ) (s : ℕ) (c : length cs ≡ CELLS) (l : length ls ≡ CELLS) (m : s < USERS) where
  abbrev at_cell : ℕ → ℕ
  at_cell i = nat_abs (atZ cs i) + nat_abs (atZ ls i)

  basis_is : (all : Bool)
      → pick all (at_cell (KINDS * s)) 0 ∷ at_cell (KINDS * s + 1) ∷ at_cell (KINDS * s + 2) ∷ at_cell (KINDS * s + 3) ∷ at_cell (KINDS * s + 4) ∷ []
      ≡ by_basis all (consumption_and_losses cs ls s)
  unfolding zip_with
  basis_is all = go all _ _ _ _ _ ∙ ap₂ (λ x y. pick all (zip_with ◌+◌ (map nat_abs x) (map nat_abs y)) (0 ∷ drop 1 (zip_with ◌+◌ (map nat_abs x) (map nat_abs y)))) (sym (kinds_are cs s (omega arith))) (sym (kinds_are ls s (omega arith)))
    where
      go : (p : Bool) (a b c d e : ℕ) → pick p a 0 ∷ b ∷ c ∷ d ∷ e ∷ [] ≡ pick p (a ∷ b ∷ c ∷ d ∷ e ∷ []) (0 ∷ b ∷ c ∷ d ∷ e ∷ [])
      go true a b c d e = refl
      go false a b c d e = refl

  pub weights_are : (all : Bool) {a b c d e : ℕ} → a ≡ pick all (at_cell (KINDS * s)) 0 → b ≡ at_cell (KINDS * s + 1) → c ≡ at_cell (KINDS * s + 2)
      → d ≡ at_cell (KINDS * s + 3) → e ≡ at_cell (KINDS * s + 4) → a ∷ b ∷ c ∷ d ∷ e ∷ [] ≡ by_basis all (consumption_and_losses cs ls s)
  weights_are all p q r s t = five_eq p q r s t ∙ basis_is all

  pub cells_full : Full (consumption_and_losses cs ls s)
  cells_full = record {
    consumption = length-map (kinds_of s cs) nat_abs ∙ kinds_long cs s (omega arith);
    losses = length-map (kinds_of s ls) nat_abs ∙ kinds_long ls s (omega arith);
    balance = refl;
  }
