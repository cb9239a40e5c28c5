use mathlib.Core.Path.{◌≡◌}
use Prim.Native.Nat.{◌≤◌}
use Rattle.numbers.specs.Sums.{sumZ}
use Rattle.numbers.proofs.Filled.{Filled}
use Rattle.state.specs.Places.{offtake_at}
use Rattle.taken.proofs.add_offtakes.Given as goal

abbrev pub invariant-loop-s : goal.invariant-loop-s
invariant-loop-s l =
    (l.s ≤ l.n)
    × Filled (offtake_at l.amounts.consumption.now l.amounts.losses.now) l.initial.wholes l.s l.wholes
    × (l.sum ≡ (sumZ (offtake_at l.amounts.consumption.now l.amounts.losses.now) l.s))
