use mathlib.Core.Path.{◌≡◌}
use Prim.Native.Nat.{◌≤◌}
use lib.Dec.{leb}
use lib.IntN.{nat_abs}
use lib.ListN.{length, take}
use Rattle.numbers.specs.Lists.{every}
use Rattle.numbers.proofs.all_limited.Given as goal

abbrev pub invariant-loop-x : goal.invariant-loop-x
invariant-loop-x l = (l.limited ≡ every (λ x. leb (nat_abs x) l.limit) (take l.x-index l.xs)) × (l.x-index ≤ length l.xs)
