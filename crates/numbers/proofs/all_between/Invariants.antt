use Prim.Native.Nat.{ℕ, ◌≤◌, ◌<◌}
use Rattle.numbers.specs.Sums.{atZ}
use Rattle.numbers.specs.Amounts.{Between}
use Rattle.numbers.proofs.all_between.Given as goal

abbrev pub invariant-loop-i : goal.invariant-loop-i
invariant-loop-i l = (l.from ≤ l.i) × ((k : ℕ) → l.from ≤ k → k < l.i → Between l.low l.high (atZ l.xs k))
