-- Weights that stand in buffers, and their sum. Assumes nothing.
use mathlib.Core.Path.{◌≡◌, ap, ◌∙◌}
use mathlib.Core.Bool.{true, false, not}
use mathlib.Core.List.{List, ◌++◌, map, append-nil}
use Prim.Native.Nat.{ℕ}
use native.Mathlib.Omega.{arith}
use lib.IntN.{ℤ, pos, nat_abs}
use lib.ListN.{length, drop, length-map, drop_of_length-le, get_or-map}
use borrow.Author.Tests.{not-true, not-false}
use Rattle.numbers.specs.Sums.{at, atZ, total, totalZ, Bounded}
use Rattle.numbers.specs.Amounts.{Within, is_negative}
use Rattle.numbers.proofs.Lists.{all_every, all_map}
use Rattle.numbers.proofs.Amounts.{NonNeg, sum_nonneg}
use Rattle.point_day.specs.Calls.{negative}

-- a buffer just long enough
pub fitted : {A : Type 0} (n : ℕ) (xs d : List A) {e : List A} → e ≡ xs ++ drop n d → length d ≡ n → e ≡ xs
fitted n xs d h l = h ∙ ap (λ t. xs ++ t) (drop_of_length-le d {i = n} (omega arith)) ∙ append-nil xs

pub sizes_long : (zs : List ℤ) {ws : List ℕ} → ws ≡ map nat_abs zs → length ws ≡ length zs
sizes_long zs e = ap length e ∙ length-map zs nat_abs

pub sizes_bounded : {m : ℕ} (zs : List ℤ) {ws : List ℕ} → ws ≡ map nat_abs zs → ((i : ℕ) → Within m (atZ zs i)) → Bounded m ws
sizes_bounded zs e h i = omega (arith, ap (λ t. at t i) e ∙ get_or-map nat_abs zs i (pos 0), (h i).size)

-- if none of the amounts is negative, the sum of their sizes is the size of their sum
pub sizes_sum : (zs : List ℤ) → negative zs ≡ false → nat_abs (totalZ zs) ≡ total (map nat_abs zs)
sizes_sum zs e =
    ap nat_abs
    (sum_nonneg zs
    (all_map (λ z. not (is_negative z) ≡ true) NonNeg (λ z h. not-true (is_negative z) h) zs
    (all_every (λ z. not (is_negative z)) zs (not-false _ e))))
