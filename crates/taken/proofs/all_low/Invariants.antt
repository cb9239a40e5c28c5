use Prim.Native.Nat.{ℕ, ◌≤◌, ◌<◌}
use Rattle.state.specs.Places.{LowSlot}
use Rattle.taken.proofs.all_low.Given as goal

abbrev pub invariant-loop-s : goal.invariant-loop-s
invariant-loop-s l = (l.s ≤ l.n) × ((j : ℕ) → 0 ≤ j → j < l.s → LowSlot l.amounts.consumption.now l.amounts.losses.now j)
