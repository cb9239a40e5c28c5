-- The most that a sum can be. Assumes nothing.
use mathlib.Core.Path.{◌≡◌}
use mathlib.Core.Bool.{true}
use mathlib.Core.List.{List, [], ◌∷◌}
use Prim.Native.Nat.{ℕ, ◌*◌, ◌≤◌}
use native.Mathlib.Omega.{arith}
use native.Mathlib.Nat.{suc-mul}
use lib.Dec.{leb}
use lib.ListN.{length}
use borrow.Author.Tests.{leb-true}
use Rattle.numbers.specs.Sums.{total}
use Rattle.numbers.specs.Lists.{every}
use Rattle.numbers.proofs.Lists.{both_fst, both_snd}

-- no more than the most for each
pub total_most : (m : ℕ) (xs : List ℕ) → every (λ x. leb x m) xs ≡ true → total xs ≤ length xs * m
unfolding total every
total_most m [] e = omega arith
total_most m (x ∷ xs) e =
    omega (arith, leb-true x m (both_fst _ _ e), total_most m xs (both_snd (leb x m) _ e), suc-mul (length xs) m)
