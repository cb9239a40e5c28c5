use mathlib.Core.Path.{◌≡◌}
use Prim.Native.Nat.{ℕ, ◌≤◌, ◌<◌}
use Rattle.numbers.specs.Sums.{sumZ}
use Rattle.numbers.proofs.Filled.{Filled}
use Rattle.taken.specs.Tested.{added_at}
use Rattle.taken.proofs.Parts.{Added}
use Rattle.taken.proofs.add_balances.Given as goal

abbrev pub invariant-loop-s : goal.invariant-loop-s
invariant-loop-s l =
    (l.s ≤ l.n)
    × ((j : ℕ) → 0 ≤ j → j < l.s → Added l.initial.wholes l.amounts.balance.now l.amounts.revision.now j)
    × Filled (added_at l.initial.wholes l.amounts.balance.now l.amounts.revision.now) l.initial.wholes l.s l.wholes
    × (l.sum ≡ (sumZ (added_at l.initial.wholes l.amounts.balance.now l.amounts.revision.now) l.s))
