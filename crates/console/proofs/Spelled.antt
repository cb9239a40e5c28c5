-- The first bytes of a list, read as a number by the library, are the number that they spell. Assumes nothing.
use mathlib.Core.Bool.{Bool, true, false, cond}
use mathlib.Core.List.{List}
use mathlib.Core.Path.{◌≡◌, refl}
use Prim.Native.Nat.{ℕ, suc, ◌-◌}
use lib.Dec.{ltb}
use lib.IntN.{pos, negsuc}
use mir.Val.{to_z}
use native.Mathlib.Omega.{arith}
use lib.ListN.{take}
use mir.Syntax.{w8, w16, w32, w64}
use Rattle.std.specs.Int.{from_le_bytes}
use Rattle.std.proofs.lemmas.List.{get_or-take}
use Rattle.numbers.specs.Sums.{pick}
use Rattle.wire.specs.Bytes.{little_endian, signed_64}

module _ (s : List ℕ) where
  pub spelled_8 : from_le_bytes w8 (take 1 s) ≡ little_endian 1 s 0
  unfolding little_endian
  spelled_8 = grind (arith, get_or-take)

  pub spelled_16 : from_le_bytes w16 (take 2 s) ≡ little_endian 2 s 0
  unfolding little_endian
  spelled_16 = grind (arith, get_or-take)

  pub spelled_32 : from_le_bytes w32 (take 4 s) ≡ little_endian 4 s 0
  unfolding little_endian
  spelled_32 = grind (arith, get_or-take)

  pub spelled_64 : from_le_bytes w64 (take 8 s) ≡ little_endian 8 s 0
  unfolding little_endian
  spelled_64 = grind (arith, get_or-take)

-- the signed number of 64 bits
pub signed_is : (n : ℕ) → to_z w64 n ≡ signed_64 n
signed_is n =
    let e : 18446744073709551615 - n ≡ 18446744073709551616 - suc n = omega arith in
    rw e (by_cases (ltb n 9223372036854775808))
  where
    by_cases : (b : Bool) → cond b (pos n) (negsuc (18446744073709551616 - suc n)) ≡ pick b (pos n) (negsuc (18446744073709551616 - suc n))
    by_cases true = refl
    by_cases false = refl
