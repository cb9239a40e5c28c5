-- The lines of a report's users, one after the other; numbers cast to amounts. Assumes nothing.
use mathlib.Core.Path.{◌≡◌, sym, subst⁻¹}
use mathlib.Core.List.{List, ◌++◌}
use Prim.Native.Nat.{ℕ, ◌+◌, ◌≤◌}
use native.Mathlib.Numerals.{add-one}
use native.Mathlib.Omega.{arith}
use mir.Syntax.{w64}
use mir.Val.{to_z}
use Rattle.numbers.specs.Sums.{table}
use Rattle.numbers.specs.Lists.{flat}
use Rattle.numbers.specs.Amounts.{SAFE, Within}
use Rattle.point_day.proofs.Back.{flat_snoc}
use Rattle.report.proofs.refusal.Casts.{cast_back}

-- the lines of one slot more
pub one_more : (f : ℕ → List ℕ) (s : ℕ) → flat (table f s) ++ f s ≡ flat (table f (s + 1))
unfolding table
one_more f s = rw (add-one s) (sym (flat_snoc (table f s) (f s)))

pub cast_safe : (n : ℕ) → n ≤ SAFE → Within SAFE (to_z w64 n)
cast_safe n l = subst⁻¹ (Within SAFE) (cast_back n (omega arith)) (record { size = l })
