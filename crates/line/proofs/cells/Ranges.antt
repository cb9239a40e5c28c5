-- The ranges of a line, and its losses. Assumes nothing.
use mathlib.Core.Path.{◌≡◌}
use mathlib.Core.Bool.{true}
use Prim.Native.Nat.{ℕ, ◌*◌, ◌≤◌}
use native.Mathlib.Omega.{arith}
use native.Mathlib.Nat.{mul-le-mul}
use lib.Dec.{leb}
use borrow.Author.Tests.{leb-true}
use Rattle.numbers.specs.Lists.{both}
use Rattle.numbers.proofs.Lists.{both_fst, both_snd}
use Rattle.numbers.proofs.Rounding.{nearest_le}
use Rattle.point_day.specs.Limits.{KINDS, LIMIT, COEFFICIENT, PARTS}
use Rattle.point_day.specs.Day.{is_number}
use Rattle.point_day.specs.Calls.{cell_step, line_right}
use Rattle.line.specs.Cell.{line_losses}

pub record Ranges (n kind c k : ℕ) : Type 0 where
  pub user : 1 ≤ n
  pub low : 1 ≤ kind
  pub high : kind ≤ KINDS
  pub consumption : c ≤ LIMIT
  pub coefficient : k ≤ COEFFICIENT

pub ranges : (n kind c k : ℕ) → line_right n kind c k ≡ true → Ranges n kind c k
unfolding line_right
ranges n kind c k e =
    let b = both_snd (is_number n) _ e in
    let x = both_fst (both (leb 1 kind) (leb kind KINDS)) _ b in
    let y = both_snd (both (leb 1 kind) (leb kind KINDS)) _ b in
    record {
      user = leb-true 1 n (both_fst (leb 1 n) _ (both_fst (is_number n) _ e));
      low = leb-true 1 kind (both_fst (leb 1 kind) _ x);
      high = leb-true kind KINDS (both_snd (leb 1 kind) _ x);
      consumption = leb-true c LIMIT (both_fst (leb c LIMIT) _ y);
      coefficient = leb-true k COEFFICIENT (both_snd (leb c LIMIT) _ y);
    }

pub losses_small : (c k : ℕ) → c ≤ LIMIT → k ≤ COEFFICIENT → line_losses c k ≤ LIMIT
unfolding cell_step
losses_small c k a b = nearest_le (c * k) PARTS (omega arith) LIMIT (omega (arith, mul-le-mul a b))
