-- Temperatures above 15 degrees, and small distances in 32 bits. Assumes nothing.
use mathlib.Core.Path.{◌≡◌, refl, ◌∙◌}
use mathlib.Core.Bool.{true, false}
use Prim.Native.Nat.{ℕ, ◌-◌, ◌≤◌}
use native.Mathlib.Omega.{arith}
use lib.Dec.{T}
use lib.IntN.{ℤ, pos, negsuc, nat_abs, ◌-ℤ◌}
use lib.Signed.{lt_z, le_z, non_neg}
use mir.Syntax.{w32, w64}
use mir.Val.{Fits, SFits, of_z, to_z}
use mir.Facts.{to_z-of_z}
use borrow.Author.Tests.{le-ltb, ltb-false, leb-true}
use Rattle.numbers.proofs.Lists.{true≢false}
use Rattle.numbers.proofs.Amounts.{sub_pos}
use Rattle.degree_days.specs.Degrees.{HIGHEST, BASE}

-- t lies w tenths above 15 degrees
pub record Above (t : ℤ) : Type 0 where
  pub size : ℕ
  pub is : t -ℤ BASE ≡ pos size
  pub most : size ≤ 450

pub is_above : (t : ℤ) → lt_z t BASE ≡ false → le_z t HIGHEST ≡ true → Above t
is_above (pos b) h k =
    let l = ltb-false b 150 h in
    record { size = b - 150; is = sub_pos b 150 ∙ rw (le-ltb b 150 l) refl; most = omega (arith, leb-true b 600 k) }
is_above (negsuc b) h k = true≢false h

-- ---- a small distance in a local of 32 bits

module _ {z : ℤ} {n : ℕ} (e : z ≡ pos n) (l : n ≤ 650) where
  pub small_fits : SFits w32 z
  small_fits = rw e (record { sfits = omega arith })

  pub small_back : to_z w32 (of_z w32 z) ≡ pos n
  small_back = to_z-of_z small_fits ∙ e

  pub small_cast : T (non_neg (to_z w32 (of_z w32 z))) × Fits w64 (nat_abs (to_z w32 (of_z w32 z)))
  small_cast = rw small_back (tt, record { fits = omega arith })
