-- Tests of lists, and lists made of lists. Assumes nothing.
use Rattle.std.specs.Prelude.{Bool, true, false, not, List, [], ◌∷◌, ◌++◌, ◌≡◌, ℕ, ◌<◌, eqb, ltb, length, get_or}

-- both tests hold
abbrev pub both : Bool → Bool → Bool
both true q = q
both false q = false

-- one of the tests holds
abbrev pub either : Bool → Bool → Bool
either true q = true
either false q = q

-- the test holds for each element
unfoldable pub every : {A : Type 0} → (A → Bool) → List A → Bool
every p [] = true
every p (x ∷ xs) = both (p x) (every p xs)

-- n stands in the list
unfoldable pub has : ℕ → List ℕ → Bool
has n [] = false
has n (x ∷ xs) = either (eqb n x) (has n xs)

-- no element stands twice
unfoldable pub distinct : List ℕ → Bool
distinct [] = true
distinct (x ∷ xs) = both (not (has x xs)) (distinct xs)

-- the same, by places
abbrev pub Distinct : List ℕ → Type 0
Distinct xs = (i j : ℕ) → i < j → j < length xs → get_or xs i 0 ≡ get_or xs j 0 → ⊥

-- each element is above the one before
unfoldable pub rising : List ℕ → Bool
rising [] = true
rising (x ∷ []) = true
rising (x ∷ (y ∷ xs)) = both (ltb x y) (rising (y ∷ xs))

-- one list after the other
unfoldable pub flat : {A : Type 0} → List (List A) → List A
flat [] = []
flat (xs ∷ xss) = xs ++ flat xss

-- f of the elements of two lists, pair by pair
