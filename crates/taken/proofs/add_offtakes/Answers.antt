-- `taken::add_offtakes` meets its contract: a column that is filled user by user, and the sum so far. Assumes nothing.
use mathlib.Core.Path.{refl, ap, ◌∙◌}
use Prim.Native.Nat.{◌*◌}
use native.Mathlib.Omega.{arith}
use mir.Syntax.{w64}
use mir.Val.{of_z, to_z}
use Rattle.numbers.specs.Sums.{sumZ}
use Rattle.numbers.proofs.Amounts.{back, next_turn_kept, next_turn_fits}
use Rattle.numbers.proofs.Filled.{fill_none, fill_step}
use Rattle.state.specs.Places.{ROOM, offtake_at}
use Rattle.state.proofs.Lows.{offtake_within}
use Rattle.taken.proofs.add_offtakes.Goals as goal

pub loop-s-init : goal.loop-s-init
loop-s-init c = (omega arith, fill_none _ _, unfold sumZ in refl)

pub overflow_add-sum : goal.overflow_add-sum
overflow_add-sum c =
    let a = c.args.amounts.now in
    let low = c.requires.1 in
    let l = c.loop-s in
    rw c.user_offtake-offtake.ensures
    (next_turn_fits (10 * ROOM) (offtake_at a.consumption.now a.losses.now) l.s (λ j m. offtake_within a.consumption.now a.losses.now j (low j (omega arith))) _ l.invariant.2 (omega arith))

pub loop-s-preserved : goal.loop-s-preserved
loop-s-preserved c =
    let a = c.args.amounts.now in
    let low = c.requires.1 in
    let l = c.loop-s in
    let f = offtake_at a.consumption.now a.losses.now in
    let v = ap (λ z. to_z w64 (of_z w64 z)) c.user_offtake-offtake.ensures ∙ back (offtake_within a.consumption.now a.losses.now l.s (low l.s (omega arith))) (omega arith) in (
      omega arith,
      fill_step l.invariant.1 (omega arith) v,
      rw c.user_offtake-offtake.ensures
          (next_turn_kept (10 * ROOM) f l.s (λ j m. offtake_within a.consumption.now a.losses.now j (low j (omega arith))) _ l.invariant.2 (omega arith)),
    )
