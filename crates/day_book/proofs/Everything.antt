-- Everything that the users of a point-day have, added up over its arrays, is the sum of their whole amounts. Assumes nothing.
use mathlib.Core.Path.{◌≡◌, refl, ap, ap₂, ◌∙◌}
use mathlib.Core.List.{List, [], ◌∷◌, map}
use Prim.Native.Nat.{ℕ, zero, suc, ◌-◌}
use lib.IntN.{ℤ, pos, ◌+ℤ◌, +ℤ_idr}
use lib.ListN.{length, replicate}
use Rattle.numbers.specs.Sums.{total, totalZ}
use Rattle.numbers.specs.Lists.{flat}
use Rattle.numbers.proofs.Lists.{map_map, map_eq}
use Rattle.numbers.proofs.Amounts.{exchange}
use Rattle.numbers.proofs.Sums.{totalZ_append}
use Rattle.point_day.specs.Limits.{USERS, CELLS}
use Rattle.point_day.specs.Day.{User, Day, all_whole}
use Rattle.point_day.specs.Struct.{padded, laid}
use Rattle.day_book.specs.Arrays.{everything}

zeros_sum : (n : ℕ) → totalZ (replicate n (pos 0)) ≡ pos 0
unfolding totalZ
zeros_sum zero = refl
zeros_sum (suc n) = ap (λ z. pos 0 +ℤ z) (zeros_sum n)

padded_sum : (n : ℕ) (xs : List ℤ) → totalZ (padded n (pos 0) xs) ≡ totalZ xs
unfolding padded
padded_sum n xs =
    totalZ_append xs (replicate (n - length xs) (pos 0)) ∙ ap (λ z. totalZ xs +ℤ z) (zeros_sum (n - length xs)) ∙ +ℤ_idr (totalZ xs)

flat_sum : (zss : List (List ℤ)) → totalZ (flat zss) ≡ totalZ (map totalZ zss)
unfolding flat totalZ
flat_sum [] = refl
flat_sum (zs ∷ zss) = totalZ_append zs (flat zss) ∙ ap (λ z. totalZ zs +ℤ z) (flat_sum zss)

numbers_sum : (ns : List ℕ) → totalZ (map pos ns) ≡ pos (total ns)
unfolding total totalZ
numbers_sum [] = refl
numbers_sum (n ∷ ns) = ap (λ z. pos n +ℤ z) (numbers_sum ns)

added_sum : (f g : User → ℤ) (us : List User) → totalZ (map f us) +ℤ totalZ (map g us) ≡ totalZ (map (λ u. f u +ℤ g u) us)
unfolding totalZ
added_sum f g [] = refl
added_sum f g (u ∷ us) =
    exchange (f u) (totalZ (map f us)) (g u) (totalZ (map g us)) ∙ ap (λ z. (f u +ℤ g u) +ℤ z) (added_sum f g us)

-- an array with five figures for each user
cells_sum : (g : User → List ℤ) (f : User → ℤ) → ((u : User) → totalZ (g u) ≡ f u) → (us : List User)
    → totalZ (padded CELLS (pos 0) (flat (map g us))) ≡ totalZ (map f us)
cells_sum g f e us =
    padded_sum CELLS (flat (map g us)) ∙ flat_sum (map g us) ∙ ap totalZ (map_map totalZ g us ∙ map_eq (λ u. totalZ (g u)) f e us)

pub everything_laid : (d : Day) → everything (laid d) ≡ all_whole d.users
unfolding laid
everything_laid d =
    let us = d.users in
    let used : User → ℤ = λ u. pos (total u.consumption) in
    let lost : User → ℤ = λ u. pos (total u.losses) in
    let shared : User → ℤ = λ u. totalZ u.balance in
    let revised : User → ℤ = λ u. u.revision in
    ap₂ ◌+ℤ◌
    (ap₂ ◌+ℤ◌ (cells_sum _ used (λ u. numbers_sum u.consumption) us) (cells_sum _ lost (λ u. numbers_sum u.losses) us)
    ∙ added_sum used lost us)
    (ap₂ ◌+ℤ◌ (cells_sum _ shared (λ u. refl) us) (padded_sum USERS (map revised us)) ∙ added_sum shared revised us)
    ∙ added_sum (λ u. used u +ℤ lost u) (λ u. shared u +ℤ revised u) us
