-- The users' weights: what fits. Assumes nothing.
use mathlib.Core.Path.{◌≡◌, ap, ◌∙◌}
use mathlib.Core.Bool.{Bool, true, false}
use mathlib.Core.List.{List, [], ◌∷◌, map, zip_with}
use mathlib.Core.Logic.{⊎_elim}
use Prim.Native.Nat.{ℕ, zero, suc, ◌+◌, ◌*◌, ◌≤◌}
use native.Mathlib.Omega.{arith}
use lib.IntN.{ℤ, nat_abs}
use lib.ListN.{length, take, drop, get_or-eq_default}
use Rattle.numbers.specs.Sums.{total, Bounded}
use Rattle.numbers.proofs.Sums.{lt_or_ge, length_table, at_table}
use Rattle.proration.specs.Proration.{PARTIES, LARGEST_WEIGHT}
use Rattle.point_day.specs.Limits.{USERS, KINDS, LIMIT}
use Rattle.point_day.specs.Calls.{by_basis}
use Rattle.allot.specs.UserWeights.{CellsInRange, consumption_and_losses, weight_at, weights}

-- ---- a user's weight is no more than all consumption and losses

part_total : (n m : ℕ) (xs : List ℤ) → total (map nat_abs (take n (drop m xs))) ≤ total (map nat_abs xs)
unfolding total
part_total zero m xs = omega arith
part_total (suc n) zero [] = omega arith
part_total (suc n) zero (x ∷ xs) = omega (arith, part_total n zero xs)
part_total (suc n) (suc m) [] = omega arith
part_total (suc n) (suc m) (x ∷ xs) = omega (arith, part_total (suc n) m xs)

zip_total : (xs ys : List ℕ) → total (zip_with ◌+◌ xs ys) ≤ total xs + total ys
unfolding total zip_with
zip_total [] ys = omega arith
zip_total (x ∷ xs) [] = omega arith
zip_total (x ∷ xs) (y ∷ ys) = omega (arith, zip_total xs ys)

rest_total : (xs : List ℕ) → total (0 ∷ drop 1 xs) ≤ total xs
unfolding total
rest_total [] = omega arith
rest_total (x ∷ xs) = omega arith

module _ (cs ls : List ℤ) (h : CellsInRange cs ls) where
  all_small : (s : ℕ) → total (by_basis true (consumption_and_losses cs ls s)) ≤ LIMIT
  all_small s =
      omega (
        arith,
        zip_total (consumption_and_losses cs ls s).consumption (consumption_and_losses cs ls s).losses,
        part_total KINDS (KINDS * s) cs,
        part_total KINDS (KINDS * s) ls,
        h.sum,
      )

  user_small : (all : Bool) (s : ℕ) → weight_at all cs ls s ≤ LIMIT
  user_small true s = all_small s
  user_small false s = omega (arith, rest_total (by_basis true (consumption_and_losses cs ls s)), all_small s)

  -- the weights of n users, as a split asks for them
  pub weights_right : (all : Bool) (n : ℕ) → n ≤ USERS → {ws : List ℕ} → ws ≡ weights all cs ls n
      → (length ws ≡ n) × (length ws ≤ PARTIES) × Bounded LARGEST_WEIGHT ws
  weights_right all n l {ws} e =
      let long : length ws ≡ n = ap length e ∙ length_table _ n in
      (long, omega arith, λ i. rw e (small i))
    where
      small : Bounded LARGEST_WEIGHT (weights all cs ls n)
      small i =
          ⊎_elim
          (λ m. rw (at_table (weight_at all cs ls) n i m) (omega (arith, user_small all i)))
          (λ m. rw (get_or-eq_default (weights all cs ls n) 0 {n = i} (omega (arith, length_table (weight_at all cs ls) n))) (omega arith))
          (lt_or_ge i n)
