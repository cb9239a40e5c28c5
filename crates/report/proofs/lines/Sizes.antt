-- Amounts of slots: their sizes, and as a callee has them. Assumes nothing.
use mathlib.Core.Path.{◌≡◌, ap₂, ◌∙◌, subst⁻¹}
use mathlib.Core.List.{List, [], ◌∷◌}
use mathlib.Core.Logic.{⊎_elim}
use Prim.Native.Nat.{ℕ, ◌+◌, ◌*◌, ◌^◌, ◌≤◌, ◌<◌}
use native.Mathlib.Omega.{arith}
use native.Mathlib.Nat.{mul-le-mul_right}
use lib.IntN.{ℤ, pos, ◌+ℤ◌}
use lib.ListN.{length, take, drop, length-take, get_or-eq_default}
use lib.Seq.{get_or-take, get_or-drop}
use mir.Syntax.{w64}
use mir.Val.{of_z, to_z}
use Rattle.numbers.specs.Sums.{atZ, totalZ}
use Rattle.numbers.specs.Amounts.{SAFE, Within}
use Rattle.numbers.proofs.Sums.{lt_or_ge, totalZ_sum}
use Rattle.numbers.proofs.Amounts.{within_sum, widen, back}
use Rattle.point_day.specs.Limits.{USERS, KINDS, CELLS}
use Rattle.point_day.specs.Struct.{kinds_of}
use Rattle.state.specs.Places.{ROOM, Small}
use Rattle.day_file.specs.Text.{text_line}
use Rattle.report.specs.Lines.{of_slot}

-- ---- a part of an array

module _ (m : ℕ) (xs : List ℤ) (h : (i : ℕ) → Within m (atZ xs i)) where
  pub within_part : (from n : ℕ) (i : ℕ) → Within m (atZ (take n (drop from xs)) i)
  within_part from n i =
      ⊎_elim
      (λ l. subst⁻¹ (Within m) (get_or-take n (drop from xs) i (pos 0) l ∙ get_or-drop from xs i (pos 0)) (h (from + i)))
      (λ l. subst⁻¹ (Within m) (get_or-eq_default (take n (drop from xs)) (pos 0) {n = i} (omega (arith, length-take n (drop from xs)))) (record { size = omega arith }))
      (lt_or_ge i n)

  pub within_total : Within (length xs * m) (totalZ xs)
  within_total = subst⁻¹ (Within (length xs * m)) (totalZ_sum xs) (within_sum m (atZ xs) h (length xs))

-- at most n elements
pub within_few : (m : ℕ) (xs : List ℤ) → ((i : ℕ) → Within m (atZ xs i)) → (n : ℕ) → length xs ≤ n → Within (n * m) (totalZ xs)
within_few m xs h n l = widen (within_total m xs h) (mul-le-mul_right m l)

pub start_within : (xs : List ℤ) → Small xs → (n : ℕ) → n ≤ USERS → Within 3200000000000 (totalZ (take (KINDS * n) xs))
start_within xs h n l = within_few ROOM (take (KINDS * n) xs) (within_part ROOM xs h 0 (KINDS * n)) CELLS (omega (arith, length-take (KINDS * n) xs))

pub slot_within : (xs : List ℤ) → Small xs → (s : ℕ) → Within 50000000000 (of_slot xs s)
slot_within xs h s = within_few ROOM (kinds_of s xs) (within_part ROOM xs h (KINDS * s) KINDS) KINDS (omega (arith, length-take KINDS (drop (KINDS * s) xs)))

-- ---- amounts as a callee has them

module _ {m : ℕ} {z r : ℤ} (e : r ≡ z) (h : Within m z) where
  pub wrapped : m < 2 ^ 63 → to_z w64 (of_z w64 r) ≡ z
  wrapped l = rw e (back h l)

  pub safe : m ≤ SAFE → Within SAFE (to_z w64 (of_z w64 r))
  safe l = subst⁻¹ (Within SAFE) (wrapped (omega arith)) (widen h l)

-- the sum of two amounts so handed on
pub wrapped_sum : {m n : ℕ} {x y p q r : ℤ} → p ≡ x → q ≡ y → Within m x → Within n y → m < 2 ^ 63 → n < 2 ^ 63
    → r ≡ to_z w64 (of_z w64 p) +ℤ to_z w64 (of_z w64 q) → r ≡ x +ℤ y
wrapped_sum e f h k l o g = g ∙ ap₂ ◌+ℤ◌ (wrapped e h l) (wrapped f k o)

-- a line of amounts so handed on
pub line_as : (word : List ℕ) {a b c d e a' b' c' d' e' : ℤ} → a' ≡ a → b' ≡ b → c' ≡ c → d' ≡ d → e' ≡ e
    → text_line word (a' ∷ b' ∷ c' ∷ d' ∷ e' ∷ []) ≡ text_line word (a ∷ b ∷ c ∷ d ∷ e ∷ [])
line_as word p q r s t = λ i. text_line word (p i ∷ q i ∷ r i ∷ s i ∷ t i ∷ [])
