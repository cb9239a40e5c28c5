-- `in_place::stand_in` meets its contract: what its tests find, it does. Assumes nothing.
use mathlib.Core.Path.{◌≡◌, refl, sym, ap, ◌∙◌}
use mathlib.Core.List.{[], ◌∷◌, ◌++◌}
use Prim.Native.Nat.{◌-◌}
use native.Mathlib.Omega.{arith}
use lib.IntN.{pos}
use lib.ListN.{length, take, set, replicate}
use borrow.Author.Rules.{rules}
use Rattle.std.specs.Prelude.{Ok, Err}
use Rattle.numbers.proofs.Refusals.{status_passed, refusal_passed, refused_not_0}
use Rattle.point_day.specs.Limits.{CELLS, TOLERANCE}
use Rattle.point_day.specs.Calls.{join, line, measure, allot, revise, start_final, stand_in}
use Rattle.point_day.specs.Day.{next}
use Rattle.point_day.specs.Struct.{rows_of}
use Rattle.taken.proofs.Facts.{known_few, known_sum, known_measurement}
use Rattle.stand_in.specs.Rows.{rows_in}
use Rattle.plain_day.specs.Layout.{STAGE_AT, ALLOTTED_AT, CONSUMPTION_AT, LOSSES_AT, BALANCE_AT, day_in, stage_number}
use Rattle.plain_day.specs.Tested.{TestedNumbers}
use Rattle.plain_day.proofs.Outcomes.{untaken}
use Rattle.plain_day.proofs.Ranges.{part_length}
use Rattle.in_place.proofs.Effects as effect
use Rattle.in_place.proofs.Taken.{long, stage_read, refused_by}
use Rattle.in_place.proofs.stand_in.Goals as goal

pub returns-in_err-state : goal.returns-in_err-state
returns-in_err-state c = λ vs. rw (refusal_passed _ _ c.from_residual.ensures.1) (untaken (stand_in TOLERANCE (rows_of (rows_in c.args.counts.now c.args.users.now c.args.amounts.now))) vs c.args.day.now c.in_err-state.ensures)

pub taken_test-requires : goal.taken_test-requires
taken_test-requires c = (known_measurement c.in_ok-state.ensures.1, c.repeat-shares.ensures)

pub returns-in_err-row : goal.returns-in_err-row
returns-in_err-row c =
    let xs = c.args.day.now in
    let t : TestedNumbers xs (Ok c.in_ok-state.state) = c.in_ok-state.ensures in
    λ vs. rw (refusal_passed _ _ c.from_residual-in_err-row.ensures.1) (refused_by xs t (stand_in TOLERANCE (rows_of (rows_in c.args.counts.now c.args.users.now c.args.amounts.now))) vs _ (c.in_err-row.ensures (day_in xs) t.1))

pub row_users-requires : goal.row_users-requires
row_users-requires c =
    let xs = c.args.day.now in
    let t : TestedNumbers xs (Ok c.in_ok-state.state) = c.in_ok-state.ensures in
    (c.in_ok-row.ensures (day_in xs) t.1).row

pub store_opening-requires : goal.store_opening-requires
store_opening-requires c =
    let xs = c.args.day.now in
    let t : TestedNumbers xs (Ok c.in_ok-state.state) = c.in_ok-state.ensures in
    (long xs t, c.row_users.ensures.1, search rules)

pub overflow_add-result : goal.overflow_add-result
overflow_add-result c =
    let xs = c.args.day.now in
    let t : TestedNumbers xs (Ok c.in_ok-state.state) = c.in_ok-state.ensures in
    omega (arith, (c.in_ok-row.ensures (day_in xs) t.1).row.found)

pub returns : goal.returns
returns c =
    let xs = c.args.day.now in
    let t : TestedNumbers xs (Ok c.in_ok-state.state) = c.in_ok-state.ensures in
    let a = c.args in
    λ vs. effect.opens xs t.0 a.counts.now a.users.now a.amounts.now c.in_ok-row.row _ (c.in_ok-row.ensures (day_in xs) t.1) vs (search rules) refl refl (rw c.row_users.ensures.0 at c.store_opening.ensures)
