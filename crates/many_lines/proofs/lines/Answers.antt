-- `many_lines::lines` meets its contract: its tests one after the other, then the lines. Assumes nothing.
use mathlib.Core.Path.{◌≡◌, refl, sym, ap, ◌∙◌}
use Prim.Native.Nat.{ℕ, ◌≤◌}
use native.Mathlib.Omega.{arith}
use lib.Seq.{length-take-le}
use lib.ListN.{length, take}
use Rattle.point_day.specs.declared.PointDay.{PointDay}
use Rattle.line.specs.Lined.{Stands}
use Rattle.taken.specs.declared.State.{State}
use Rattle.taken.specs.Tested.{Known}
use Rattle.taken.proofs.Facts.{known_few, known_sum, sum_fits}
use Rattle.line.proofs.Lining.{stands}
use Rattle.many_lines.proofs.Lining.{unequal, no_day, lines_done, not_entering}
use Rattle.many_lines.proofs.lines.Goals as goal

-- the users that have joined, as a list of their own
module _ {d : PointDay} {s : State} (k : Known d s) where
  few : s.count ≤ length s.users
  few = omega (arith, known_few k, ap length k.users, k.sized.users)

  count_is : length (take s.count s.users) ≡ s.count
  count_is = length-take-le s.count s.users few

  first_users : take s.count s.users ≡ take (length (take s.count s.users)) d.users
  first_users = rw count_is (ap (take s.count) (sym k.users))

  joined_stand : {sum : ℕ} → Stands s.users s.count sum d → Stands d.users (length (take s.count s.users)) sum d
  joined_stand t = record { sized = t.sized; is_taken = t.is_taken; entering = t.entering; users = refl; joined = t.joined ∙ sym count_is; sum = t.sum }

pub returns-then-not-same_lengths : goal.returns-then-not-same_lengths
returns-then-not-same_lengths c =
    let a = c.args in
    let e = c.entered.ensures in
    rw (e.0, e.1, e.2) (unequal a.users.now a.kinds.now a.consumptions.now a.coefficients.now a.day.now (sym c.if-not-same_lengths.ensures))

pub returns-in-Err : goal.returns-in-Err
returns-in-Err c =
    let a = c.args in
    let e = c.entered-in-Err.ensures in
    let t = c.in-Err.ensures in
    rw (e.0, e.1, e.2, t.1) (no_day a.users.now a.kinds.now a.consumptions.now a.coefficients.now a.day.now (sym c.if-not-same_lengths.ensures) t.0)

pub returns-then-state : goal.returns-then-state
returns-then-state c =
    let a = c.args in
    let e = c.entered-then-state.ensures in
    let k = c.in-Ok.ensures.1 in
    rw (e.0, e.1, e.2, c.refuse_first.ensures) (not_entering a.users.now a.kinds.now a.consumptions.now a.coefficients.now a.day.now (sym c.if-not-same_lengths.ensures) c.in-Ok.ensures.0 k.is_taken (k.allotted ∙ c.if-state.true))

pub invariant_of-lines : goal.invariant_of-lines
invariant_of-lines c = record { equal_lengths = sym c.if-not-same_lengths.ensures }

pub overflow_cast-offtake : goal.overflow_cast-offtake
overflow_cast-offtake c =
    let f = sum_fits c.in-Ok.state.sum (known_sum c.in-Ok.ensures.1) in
    rw f.0 (tt, omega (arith, f.1))

pub enter_lines-requires : goal.enter_lines-requires
enter_lines-requires c =
    let t = c.in-Ok.ensures in record { taken = (t.0, joined_stand t.1 (stands t.1 c.if-state.false)); joined = first_users t.1 }

pub returns-else-state : goal.returns-else-state
returns-else-state c =
    let a = c.args in
    let t = c.in-Ok.ensures in
    c.enter_lines.ensures ∙ lines_done a.users.now a.kinds.now a.consumptions.now a.coefficients.now a.day.now (sym c.if-not-same_lengths.ensures) t.0 t.1.is_taken
