-- `many_lines::enter_lines` meets its contract: the first i lines are accepted. Assumes nothing.
use mathlib.Core.Path.{refl, ap, ◌∙◌}
use native.Mathlib.Omega.{arith}
use lib.ListN.{length, length-set}
use Rattle.point_day.specs.Limits.{USERS}
use Rattle.state.proofs.Numbers.{slot_within}
use Rattle.line.specs.Lined.{Lines}
use Rattle.plain_day.specs.Layout.{day_in}
use Rattle.plain_day.specs.Lines.{line_in}
use Rattle.plain_day.proofs.Ranges.{laid_length}
use Rattle.many_lines.proofs.Lining.{few, sum_small, consumption_room, losses_room, none_yet, ended, all_done, accepted_more}
use Rattle.many_lines.proofs.enter_lines.Goals as goal

pub hints_of-hints-requires : goal.hints_of-hints-requires
hints_of-hints-requires c = few c.requires.taken.1

pub loop-i-init : goal.loop-i-init
loop-i-init c =
    let a = c.args in
    let ls = a.lines.now in
    (omega arith, refl, none_yet (line_in ls.users.now ls.kinds.now ls.consumptions.now ls.coefficients.now) a.day.now (day_in a.day.now).users (length a.joined.now) c.requires.taken.0 c.requires.taken.1)

pub slot_near-slot-requires : goal.slot_near-slot-requires
slot_near-slot-requires c = c.hints_of-hints.ensures

pub slot_test-requires : goal.slot_test-requires
slot_test-requires c = (slot_within _ _ USERS _ _ (few c.requires.taken.1) (rw c.requires.joined at c.slot_near-slot.ensures), sum_small c.loop-i.invariant.2.stands)

pub shape_of-day-in-Err : goal.shape_of-day-in-Err
shape_of-day-in-Err c = c.loop-i.invariant.1

pub returns-in-Err : goal.returns-in-Err
returns-in-Err c =
    let a = c.args in
    let ls = a.lines.now in
    let f = line_in ls.users.now ls.kinds.now ls.consumptions.now ls.coefficients.now in
    let v = c.loop-i in
    let A = v.invariant.2 in
    let E = c.entry-entry.ensures in
    let e = c.entered.ensures in
    rw (e.0, e.1, e.2) (ended f a.day.now (day_in a.day.now).users (length a.joined.now) A (length ls.users.now) (omega arith) (rw (E.0, E.1, E.2, E.3) at (c.in-Err.ensures (day_in a.day.now).users (length a.joined.now) A.point A.stands (rw c.requires.joined at c.slot_near-slot.ensures))))

pub add-requires : goal.add-requires
add-requires c =
    let a = c.args in
    let v = c.loop-i in
    let A = v.invariant.2 in
    let y = c.entry-entry.result in
    let L : Lines y.user y.kind y.consumption y.coefficient A.point c.in-Ok.effect.place c.in-Ok.effect.added = c.in-Ok.ensures (day_in a.day.now).users (length a.joined.now) A.point A.stands (rw c.requires.joined at c.slot_near-slot.ensures) in
    record { day_len = (v.invariant.1 ∙ laid_length a.day.now c.requires.taken.0, L.place, L.amount, L.added); within = (rw A.numbers (consumption_room A.stands L a.day.now), rw A.numbers (losses_room A.stands L a.day.now)) }

pub overflow_add-sum : goal.overflow_add-sum
overflow_add-sum c =
    let a = c.args in
    let v = c.loop-i in
    let A = v.invariant.2 in
    let y = c.entry-entry.result in
    let L : Lines y.user y.kind y.consumption y.coefficient A.point c.in-Ok.effect.place c.in-Ok.effect.added = c.in-Ok.ensures (day_in a.day.now).users (length a.joined.now) A.point A.stands (rw c.requires.joined at c.slot_near-slot.ensures) in
    omega (arith, L.amount, L.added, sum_small A.stands)

pub overflow_add-sum-in-Ok : goal.overflow_add-sum-in-Ok
overflow_add-sum-in-Ok c =
    let a = c.args in
    let v = c.loop-i in
    let A = v.invariant.2 in
    let y = c.entry-entry.result in
    let L : Lines y.user y.kind y.consumption y.coefficient A.point c.in-Ok.effect.place c.in-Ok.effect.added = c.in-Ok.ensures (day_in a.day.now).users (length a.joined.now) A.point A.stands (rw c.requires.joined at c.slot_near-slot.ensures) in
    omega (arith, L.amount, L.added, sum_small A.stands)

pub overflow_add-losses : goal.overflow_add-losses
overflow_add-losses c =
    let a = c.args in
    let v = c.loop-i in
    let A = v.invariant.2 in
    let y = c.entry-entry.result in
    let L : Lines y.user y.kind y.consumption y.coefficient A.point c.in-Ok.effect.place c.in-Ok.effect.added = c.in-Ok.ensures (day_in a.day.now).users (length a.joined.now) A.point A.stands (rw c.requires.joined at c.slot_near-slot.ensures) in
    omega (arith, L.added, A.low, sum_small A.stands)

pub loop-i-preserved : goal.loop-i-preserved
loop-i-preserved c =
    let a = c.args in
    let ls = a.lines.now in
    let f = line_in ls.users.now ls.kinds.now ls.consumptions.now ls.coefficients.now in
    let v = c.loop-i in
    let A = v.invariant.2 in
    let E = c.entry-entry.ensures in
    let L : Lines (f v.i).user (f v.i).kind (f v.i).consumption (f v.i).coefficient A.point c.in-Ok.effect.place c.in-Ok.effect.added = rw (E.0, E.1, E.2, E.3) at (c.in-Ok.ensures (day_in a.day.now).users (length a.joined.now) A.point A.stands (rw c.requires.joined at c.slot_near-slot.ensures)) in
    let g = c.add.ensures in
    (omega arith, simp length-set at (ap length g) ∙ v.invariant.1, rw E.2 (accepted_more f a.day.now (day_in a.day.now).users (length a.joined.now) A L (rw E.2 at g)))

pub shape_of-day : goal.shape_of-day
shape_of-day c = c.loop-i.invariant.1

pub returns : goal.returns
returns c =
    let a = c.args in
    let ls = a.lines.now in
    let f = line_in ls.users.now ls.kinds.now ls.consumptions.now ls.coefficients.now in
    let v = c.loop-i in
    let e = c.entered-2.ensures in
    rw (e.0, e.1, e.2) (all_done f a.day.now (day_in a.day.now).users (length a.joined.now) v.invariant.2 (length ls.users.now) (omega arith))
