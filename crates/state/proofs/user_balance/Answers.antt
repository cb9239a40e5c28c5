-- `state::user_balance` meets its contract: the sum of the kinds passed so far. Assumes nothing.
use mathlib.Core.Path.{◌≡◌, refl}
use Prim.Native.Nat.{◌+◌, ◌*◌}
use native.Mathlib.Omega.{arith}
use Rattle.numbers.specs.Sums.{sumZ, atZ}
use Rattle.numbers.proofs.Amounts.{back, sfits, within_add, next_turn_kept, next_turn_fits}
use Rattle.state.specs.Places.{ROOM}
use Rattle.state.proofs.Lows.{balance_within, revision_within, balances_within}
use Rattle.state.proofs.user_balance.Goals as goal

pub loop-k-init : goal.loop-k-init
loop-k-init c = (omega arith, unfold sumZ in refl)

pub overflow_add-sum-in-loop-k : goal.overflow_add-sum-in-loop-k
overflow_add-sum-in-loop-k c =
    let a = c.args in
    let l = c.loop-k in
    next_turn_fits ROOM (λ j. atZ a.balance.now (5 * a.slot + j)) l.k (λ j m. balance_within a.balance.now a.revision.now a.slot c.requires.1 j (omega arith)) _ l.invariant.1 (omega arith)

pub loop-k-preserved : goal.loop-k-preserved
loop-k-preserved c =
    let a = c.args in
    let l = c.loop-k in (
      omega arith,
      next_turn_kept ROOM (λ j. atZ a.balance.now (5 * a.slot + j)) l.k (λ j m. balance_within a.balance.now a.revision.now a.slot c.requires.1 j (omega arith)) _ l.invariant.1 (omega arith),
    )

pub overflow_add-result : goal.overflow_add-result
overflow_add-result c =
    let a = c.args in
    let e : c.loop-k.k ≡ 5 = omega arith in
    let v = balances_within a.balance.now a.revision.now a.slot c.requires.1 in
    let r = revision_within a.balance.now a.revision.now a.slot c.requires.1 in
    rw (c.loop-k.invariant.1, e, back r (omega arith)) (sfits (within_add v r) (omega arith))

pub returns : goal.returns
returns c =
    let a = c.args in
    let e : c.loop-k.k ≡ 5 = omega arith in
    let v = balances_within a.balance.now a.revision.now a.slot c.requires.1 in
    let r = revision_within a.balance.now a.revision.now a.slot c.requires.1 in
    rw (c.loop-k.invariant.1, e, back r (omega arith)) (back (within_add v r) (omega arith))
