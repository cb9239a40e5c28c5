-- `state::user_offtake` meets its contract: the sum of the kinds passed so far. Assumes nothing.
use mathlib.Core.Path.{refl}
use Prim.Native.Nat.{ℕ, ◌+◌, ◌*◌}
use native.Mathlib.Omega.{arith}
use lib.IntN.{ℤ, ◌+ℤ◌}
use Rattle.numbers.specs.Sums.{sumZ, atZ}
use Rattle.numbers.proofs.Amounts.{next_turn_kept, next_turn_fits}
use Rattle.state.specs.Places.{ROOM}
use Rattle.state.proofs.Lows.{kind_within}
use Rattle.state.proofs.user_offtake.Goals as goal

pub loop-k-init : goal.loop-k-init
loop-k-init c = (omega arith, unfold sumZ in refl)

pub overflow_add-sum : goal.overflow_add-sum
overflow_add-sum c =
    let a = c.args in
    let k = c.loop-k.k in
    let f : ℕ → ℤ = λ j. atZ a.consumption.now (5 * a.slot + j) +ℤ atZ a.losses.now (5 * a.slot + j) in
    rw c.cell_offtake-sum.ensures
    (next_turn_fits (2 * ROOM) f k (λ j l. kind_within a.consumption.now a.losses.now a.slot c.requires.1 j (omega arith)) _ c.loop-k.invariant.1 (omega arith))

pub loop-k-preserved : goal.loop-k-preserved
loop-k-preserved c =
    let a = c.args in
    let k = c.loop-k.k in
    let f : ℕ → ℤ = λ j. atZ a.consumption.now (5 * a.slot + j) +ℤ atZ a.losses.now (5 * a.slot + j) in (
      omega arith,
      rw c.cell_offtake-sum.ensures
          (next_turn_kept (2 * ROOM) f k (λ j l. kind_within a.consumption.now a.losses.now a.slot c.requires.1 j (omega arith)) _ c.loop-k.invariant.1 (omega arith)),
    )
