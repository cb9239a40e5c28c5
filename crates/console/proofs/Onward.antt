-- What is left after reading, over several steps. Assumes nothing.
use mathlib.Core.List.{List}
use Prim.Native.Nat.{ℕ}
use native.Mathlib.Omega.{arith}
use Rattle.std.proofs.lemmas.List.{drop-drop}
use Rattle.console.specs.Input.{Onward}

-- nothing is read
pub onward_none : (s : List ℕ) → Onward s s
onward_none s = grind arith

-- one step after another
pub onward_then : (a b c : List ℕ) → Onward a b → Onward b c → Onward a c
onward_then a b c h k = grind (arith, drop-drop)
