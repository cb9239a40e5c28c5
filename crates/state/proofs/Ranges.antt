-- Sums of small amounts stay in 64 bits. Assumes nothing.
use mathlib.Core.Path.{◌≡◌, ap, ap₂, ◌∙◌}
use mathlib.Core.List.{List}
use Prim.Native.Nat.{ℕ, ◌+◌, ◌*◌, ◌^◌, ◌<◌}
use native.Mathlib.Omega.{arith}
use lib.Dec.{T}
use lib.IntN.{ℤ, pos, nat_abs, ◌+ℤ◌}
use lib.Signed.{non_neg}
use mir.Syntax.{w64}
use mir.Val.{of_z, to_z, SFits, Fits}
use Rattle.numbers.specs.Sums.{sumZ, atZ}
use Rattle.numbers.specs.Amounts.{Within}
use Rattle.numbers.proofs.Amounts.{back, sfits, widen, within_add, within_pos, within_sum, turn_fits, turn_kept}
use Rattle.state.specs.Places.{ROOM, Small, cellZ, whole_at}

module _ (x y : ℤ) (h : Within ROOM x) (k : Within ROOM y) where
  pub two_is : to_z w64 (of_z w64 x) +ℤ to_z w64 (of_z w64 y) ≡ x +ℤ y
  two_is = ap₂ ◌+ℤ◌ (back h (omega arith)) (back k (omega arith))

  pub two_fits : SFits w64 (to_z w64 (of_z w64 x) +ℤ to_z w64 (of_z w64 y))
  two_fits = rw two_is (sfits (within_add h k) (omega arith))

  module _ (z : ℤ) (l : Within ROOM z) where
    pub three_fits : SFits w64 (to_z w64 (of_z w64 (to_z w64 (of_z w64 x) +ℤ to_z w64 (of_z w64 y))) +ℤ to_z w64 (of_z w64 z))
    three_fits = rw (two_is, back (within_add h k) (omega arith), back l (omega arith)) (sfits (within_add (within_add h k) l) (omega arith))

    pub three_is : to_z w64 (of_z w64 (to_z w64 (of_z w64 (to_z w64 (of_z w64 x) +ℤ to_z w64 (of_z w64 y))) +ℤ to_z w64 (of_z w64 z))) ≡ (x +ℤ y) +ℤ z
    three_is = rw (two_is, back (within_add h k) (omega arith), back l (omega arith)) (back (within_add (within_add h k) l) (omega arith))

module _ (cs ls bs : List ℤ) (c : Small cs) (l : Small ls) (b : Small bs) where
  pub cell_within : (i : ℕ) → Within (3 * ROOM) (cellZ cs ls bs i)
  cell_within i = widen (within_add (within_add (c i) (l i)) (b i)) (omega arith)

  pub whole_within : (rs : List ℤ) → Small rs → (s : ℕ) → Within (16 * ROOM) (whole_at cs ls bs rs s)
  whole_within rs r s = widen (within_add (within_sum (3 * ROOM) (λ k. cellZ cs ls bs (5 * s + k)) (λ k. cell_within (5 * s + k)) 5) (r s)) (omega arith)

  -- the whole amount of slot s, as the code holds it
  module _ (s : ℕ) where
    slot_within : (j : ℕ) → Within (3 * ROOM) (cellZ cs ls bs (5 * s + j))
    slot_within j = cell_within (5 * s + j)

    -- its sum over k kinds, and one kind more
    module _ (k n : ℕ) (e : to_z w64 n ≡ sumZ (λ j. cellZ cs ls bs (5 * s + j)) k) (m : k < 5) where
      pub kind_fits : SFits w64 (to_z w64 n +ℤ to_z w64 (of_z w64 (cellZ cs ls bs (5 * s + k))))
      kind_fits = turn_fits (3 * ROOM) (λ j. cellZ cs ls bs (5 * s + j)) slot_within k n e (omega arith)

      pub kind_kept : to_z w64 (of_z w64 (to_z w64 n +ℤ to_z w64 (of_z w64 (cellZ cs ls bs (5 * s + k))))) ≡ sumZ (λ j. cellZ cs ls bs (5 * s + j)) (k + 1)
      kind_kept = turn_kept (3 * ROOM) (λ j. cellZ cs ls bs (5 * s + j)) slot_within k n e (omega arith)

    -- its sum over all kinds, and the revision
    module _ (rs : List ℤ) (r : Small rs) (k n : ℕ) (e : to_z w64 n ≡ sumZ (λ j. cellZ cs ls bs (5 * s + j)) k) (m : k ≡ 5) where
      whole_is : to_z w64 n +ℤ to_z w64 (of_z w64 (atZ rs s)) ≡ whole_at cs ls bs rs s
      whole_is = ap₂ ◌+ℤ◌ (e ∙ ap (sumZ (λ j. cellZ cs ls bs (5 * s + j))) m) (back (r s) (omega arith))

      pub whole_fits : SFits w64 (to_z w64 n +ℤ to_z w64 (of_z w64 (atZ rs s)))
      whole_fits = rw whole_is (sfits (whole_within rs r s) (omega arith))

      pub whole_kept : to_z w64 (of_z w64 (to_z w64 n +ℤ to_z w64 (of_z w64 (atZ rs s)))) ≡ whole_at cs ls bs rs s
      whole_kept = rw whole_is (back (whole_within rs r s) (omega arith))

-- two sums that are not negative, added and read as an unsigned number
module _ (a b : ℕ) (l : a < 2 ^ 62) (k : b < 2 ^ 62) {x y : ℤ} (e : x ≡ pos a) (f : y ≡ pos b) where
  both_is : to_z w64 (of_z w64 x) +ℤ to_z w64 (of_z w64 y) ≡ pos (a + b)
  both_is = ap₂ (λ u v. to_z w64 (of_z w64 u) +ℤ to_z w64 (of_z w64 v)) e f ∙ ap₂ ◌+ℤ◌ (back (within_pos a) (omega arith)) (back (within_pos b) (omega arith))

  pub added_is : to_z w64 (of_z w64 (to_z w64 (of_z w64 x) +ℤ to_z w64 (of_z w64 y))) ≡ pos (a + b)
  added_is = ap (λ u. to_z w64 (of_z w64 u)) both_is ∙ back (within_pos (a + b)) (omega arith)

  pub added_fits : SFits w64 (to_z w64 (of_z w64 x) +ℤ to_z w64 (of_z w64 y))
  added_fits = rw both_is (sfits (within_pos (a + b)) (omega arith))

  pub added_cast : T (non_neg (to_z w64 (of_z w64 (to_z w64 (of_z w64 x) +ℤ to_z w64 (of_z w64 y))))) × Fits w64 (nat_abs (to_z w64 (of_z w64 (to_z w64 (of_z w64 x) +ℤ to_z w64 (of_z w64 y)))))
  added_cast = rw added_is (tt, record { fits = omega arith })
