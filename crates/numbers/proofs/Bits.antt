-- Bits gathered by `|`: all that is gathered lies below a power of two if and only if each part does. Assumes nothing.
use mathlib.Core.Path.{◌≡◌, refl}
use mathlib.Core.List.{List}
use Prim.Native.Nat.{ℕ, suc, ◌+◌, ◌^◌, ◌≤◌, ◌<◌}
use native.Mathlib.Omega.{arith}
use lib.Bits.{bit_or, or_lt, or_add_and, and_le_l, and_le_r}
use lib.IntN.{ℤ, pos, negsuc}
use borrow.Author.Tests.{ltb-false, le-ltb}
use mir.Syntax.{w64}
use mir.Val.{of_z, SFits}
use Rattle.numbers.specs.Sums.{atZ}
use Rattle.numbers.specs.Amounts.{Between}
use Rattle.numbers.proofs.Lists.{true≢false, passed}

-- the bits gathered so far lie below 2 ^ k if and only if P holds
pub record Gathered (k bits : ℕ) (P : Type 0) : Type 0 where
  pub each : bits < 2 ^ k → P
  pub back : P → bits < 2 ^ k

or_left : (a b : ℕ) → a ≤ bit_or a b
or_left a b = omega (arith, or_add_and a b, and_le_r a b)

or_right : (a b : ℕ) → b ≤ bit_or a b
or_right a b = omega (arith, or_add_and a b, and_le_l a b)

-- one part more
pub gather : {k bits : ℕ} {P Q R : Type 0} (b : ℕ) → Gathered k bits P → Gathered k b Q → (P → Q → R) → (R → P × Q) → Gathered k (bit_or bits b) R
gather {k} {bits} b h g f p = record {
  each = λ l. f (h.each (omega (arith, or_left bits b))) (g.each (omega (arith, or_right bits b)));
  back = λ r. or_lt k bits b (h.back (p r).0) (g.back (p r).1);
}

-- an amount's bits
pub amount_bits : (k m : ℕ) → suc m ≡ 2 ^ k → m < 2 ^ 63 → (x : ℤ) → SFits w64 x → Gathered k (of_z w64 x) (Between (pos 0) (pos m) x)
amount_bits k m e l (pos n) f = record {
  each = λ h. record { above = le-ltb n 0 (omega arith); below = le-ltb m n (omega arith) };
  back = λ h. omega (arith, ltb-false m n h.below);
}
amount_bits k m e l (negsuc n) f = record {
  each = λ h. absurd (omega (arith, f.sfits));
  back = λ h. true≢false h.above;
}

-- nothing but zeros: the amounts of a list passed so far
pub gather_zero : (xs : List ℤ) (from i bits : ℕ) → from ≤ i → SFits w64 (atZ xs i) → Gathered 0 bits ((j : ℕ) → from ≤ j → j < i → Between (pos 0) (pos 0) (atZ xs j))
    → Gathered 0 (bit_or bits (of_z w64 (atZ xs i))) ((j : ℕ) → from ≤ j → j < i + 1 → Between (pos 0) (pos 0) (atZ xs j))
gather_zero xs from i bits l f h =
    gather (of_z w64 (atZ xs i)) h (amount_bits 0 0 refl (omega arith) (atZ xs i) f)
    (λ p q. passed (λ j. Between (pos 0) (pos 0) (atZ xs j)) from i p q)
    (λ r. (λ j a b. r j a (omega arith), r i l (omega arith)))
