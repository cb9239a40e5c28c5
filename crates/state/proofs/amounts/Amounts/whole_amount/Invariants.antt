use mathlib.Core.Path.{◌≡◌}
use Prim.Native.Nat.{◌+◌, ◌*◌, ◌≤◌}
use Rattle.numbers.specs.Sums.{sumZ}
use Rattle.state.specs.Places.{cellZ}
use Rattle.state.proofs.amounts.Amounts.whole_amount.Given as goal

abbrev pub invariant-loop-k : goal.invariant-loop-k
invariant-loop-k l = (l.k ≤ 5) × (l.sum ≡ (sumZ (λ j. cellZ l.self.consumption.now l.self.losses.now l.self.balance.now (5 * l.slot + j)) l.k))
