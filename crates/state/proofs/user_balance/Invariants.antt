use mathlib.Core.Path.{◌≡◌}
use Prim.Native.Nat.{◌+◌, ◌*◌, ◌≤◌}
use Rattle.numbers.specs.Sums.{sumZ, atZ}
use Rattle.state.proofs.user_balance.Given as goal

abbrev pub invariant-loop-k : goal.invariant-loop-k
invariant-loop-k l = (l.k ≤ 5) × (l.sum ≡ (sumZ (λ j. atZ l.balance (5 * l.slot + j)) l.k))
