-- What a chain over a list answers, in the words of the definitions. Assumes nothing.
use mathlib.Core.Path.{◌≡◌, refl}
use mathlib.Core.List.{List}
use Prim.Native.Nat.{ℕ}
use Rattle.std.specs.List.{sum_by}
use Rattle.std.proofs.lemmas.List.Recursion.{is_sum_by}
use Rattle.numbers.specs.Sums.{total}

pub total_is_sum : (xs : List ℕ) → total xs ≡ sum_by (λ x. x) xs
unfolding total
total_is_sum = is_sum_by total (λ x. x) refl (λ _ _. refl)
