-- A number cast to an amount. Assumes nothing.
use mathlib.Core.Path.{◌≡◌}
use Prim.Native.Nat.{ℕ, ◌^◌, ◌<◌}
use native.Mathlib.Omega.{arith}
use lib.IntN.{pos}
use mir.Syntax.{w64}
use mir.Val.{to_z}
use Rattle.numbers.proofs.Amounts.{back}

pub cast_back : (n : ℕ) → n < 2 ^ 63 → to_z w64 n ≡ pos n
cast_back n l = back {m = n} {z = pos n} (record { size = omega arith }) l
