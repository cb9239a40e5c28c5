-- Facts of every element of a list, by places. Assumes nothing.
use mathlib.Core.Path.{◌≡◌, refl}
use mathlib.Core.Bool.{true}
use mathlib.Core.List.{List, [], ◌∷◌, map, zip_with}
use Prim.Native.Nat.{ℕ, zero, suc, ◌≤◌, ◌<◌}
use native.Mathlib.Omega.{arith}
use lib.ListN.{length, get_or}
use Rattle.numbers.specs.Sums.{total}
use Rattle.numbers.proofs.Lists.{All, never}
use Rattle.point_day.specs.Day.{some}

-- ---- one place, and all

module _ {A : Type 0} (P : A → Type 0) (a : A) where
  pub all_at : (xs : List A) → All P xs → (i : ℕ) → i < length xs → P (get_or xs i a)
  all_at [] h i l = absurd (omega arith)
  all_at (x ∷ xs) h zero l = h.0
  all_at (x ∷ xs) h (suc i) l = all_at xs h.1 i (omega arith)

  pub at_all : (xs : List A) → ((i : ℕ) → i < length xs → P (get_or xs i a)) → All P xs
  at_all [] h = tt
  at_all (x ∷ xs) h = (h 0 (omega arith), at_all xs (λ i l. h (suc i) (omega arith)))

pub all_of_map : {A B : Type 0} (P : B → Type 0) (f : A → B) (xs : List A) → All P (map f xs) → All (λ x. P (f x)) xs
all_of_map P f [] h = tt
all_of_map P f (x ∷ xs) h = (h.0, all_of_map P f xs h.1)

pub map_of_all : {A B : Type 0} (P : B → Type 0) (f : A → B) (xs : List A) → All (λ x. P (f x)) xs → All P (map f xs)
map_of_all P f [] h = tt
map_of_all P f (x ∷ xs) h = (h.0, map_of_all P f xs h.1)

-- what needs no proof
pub anything : {A : Type 0} (xs : List A) → All (λ x. Unit {0}) xs
anything [] = tt
anything (x ∷ xs) = (tt, anything xs)

-- ---- the element at a place

pub map_at : {A B : Type 0} (f : A → B) (a : A) (b : B) (xs : List A) (i : ℕ) → i < length xs → get_or (map f xs) i b ≡ f (get_or xs i a)
map_at f a b [] i l = absurd (omega arith)
map_at f a b (x ∷ xs) zero l = refl
map_at f a b (x ∷ xs) (suc i) l = map_at f a b xs i (omega arith)

module _ {A B C : Type 0} (f : A → B → C) (a : A) (b : B) where
  pub zip_at : (c : C) (xs : List A) (ys : List B) → length xs ≡ length ys → (i : ℕ) → i < length xs
      → get_or (zip_with f xs ys) i c ≡ f (get_or xs i a) (get_or ys i b)
  unfolding zip_with
  zip_at c [] ys e i l = absurd (omega arith)
  zip_at c (x ∷ xs) [] e i l = absurd (omega arith)
  zip_at c (x ∷ xs) (y ∷ ys) e zero l = refl
  zip_at c (x ∷ xs) (y ∷ ys) e (suc i) l = zip_at c xs ys (omega arith) i (omega arith)

  -- of every element and its neighbour
  pub all_zip_at : (P : C → Type 0) (xs : List A) (ys : List B) → length xs ≡ length ys
      → ((i : ℕ) → i < length xs → P (f (get_or xs i a) (get_or ys i b))) → All P (zip_with f xs ys)
  unfolding zip_with
  all_zip_at P [] ys e h = tt
  all_zip_at P (x ∷ xs) [] e h = absurd (omega arith)
  all_zip_at P (x ∷ xs) (y ∷ ys) e h = (h 0 (omega arith), all_zip_at P xs ys (omega arith) (λ i l. h (suc i) (omega arith)))

-- ---- sums over a list

-- each part of a sum is at most the sum
pub all_parts : {A : Type 0} (f : A → ℕ) (xs : List A) (m : ℕ) → total (map f xs) ≤ m → All (λ x. f x ≤ m) xs
unfolding total
all_parts f [] m l = tt
all_parts f (x ∷ xs) m l = (omega arith, all_parts f xs m (omega arith))

-- ---- some element

pub some_length : {A : Type 0} (xs : List A) → some xs ≡ true → 0 < length xs
some_length [] e = never e
some_length (x ∷ xs) e = omega arith

pub length_some : {A : Type 0} (xs : List A) → 0 < length xs → some xs ≡ true
length_some [] l = absurd (omega arith)
length_some (x ∷ xs) l = refl
