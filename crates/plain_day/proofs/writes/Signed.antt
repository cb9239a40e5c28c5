-- A count or an amount as a signed number of 64 bits. Assumes nothing.
use mathlib.Core.Path.{◌≡◌}
use Prim.Native.Nat.{ℕ, ◌≤◌}
use native.Mathlib.Omega.{arith}
use lib.IntN.{pos}
use mir.Syntax.{w64}
use mir.Val.{to_z}
use Rattle.numbers.proofs.Amounts.{back, widen, within_pos}
use Rattle.point_day.specs.Limits.{LIMIT}

pub signed : (n : ℕ) → n ≤ LIMIT → to_z w64 n ≡ pos n
signed n l = back {m = LIMIT} {z = pos n} (widen (within_pos n) l) (omega arith)
