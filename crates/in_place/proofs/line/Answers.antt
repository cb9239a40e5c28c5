-- `in_place::line` meets its contract: what its tests find, it does. Assumes nothing.
use mathlib.Core.Path.{◌≡◌, refl, sym, ap, ◌∙◌}
use mathlib.Core.List.{[], ◌∷◌, ◌++◌}
use Prim.Native.Nat.{◌-◌}
use native.Mathlib.Omega.{arith}
use lib.IntN.{pos}
use lib.ListN.{length, take, set, replicate}
use borrow.Author.Rules.{rules}
use Rattle.std.specs.Prelude.{Ok, Err}
use Rattle.numbers.proofs.Refusals.{status_passed, refusal_passed, refused_not_0}
use Rattle.point_day.specs.Limits.{CELLS, TOLERANCE}
use Rattle.point_day.specs.Calls.{join, line, measure, allot, revise, start_final, stand_in}
use Rattle.point_day.specs.Day.{next}
use Rattle.point_day.specs.Struct.{rows_of}
use Rattle.taken.proofs.Facts.{known_few, known_sum, known_measurement}
use Rattle.line.specs.Lined.{Lines}
use Rattle.stand_in.specs.Rows.{rows_in}
use Rattle.plain_day.specs.Layout.{STAGE_AT, ALLOTTED_AT, CONSUMPTION_AT, LOSSES_AT, BALANCE_AT, day_in, stage_number}
use Rattle.plain_day.specs.Tested.{TestedNumbers}
use Rattle.plain_day.proofs.Outcomes.{untaken}
use Rattle.plain_day.proofs.Ranges.{part_length}
use Rattle.in_place.proofs.Effects as effect
use Rattle.in_place.proofs.Taken.{long, stage_read, refused_by}
use Rattle.in_place.proofs.line.Goals as goal

pub returns-in_err-state : goal.returns-in_err-state
returns-in_err-state c = λ vs. rw (refusal_passed _ _ c.from_residual.ensures.1) (untaken (line c.args.entry.user c.args.entry.kind c.args.entry.consumption c.args.entry.coefficient) vs c.args.day.now c.in_err-state.ensures)

pub taken_test-requires : goal.taken_test-requires
taken_test-requires c = (known_few c.in_ok-state.ensures.1, known_sum c.in_ok-state.ensures.1)

pub returns-in_err-effect : goal.returns-in_err-effect
returns-in_err-effect c =
    let xs = c.args.day.now in
    let t : TestedNumbers xs (Ok c.in_ok-state.state) = c.in_ok-state.ensures in
    λ vs. rw (refusal_passed _ _ c.from_residual-in_err-effect.ensures.1) (refused_by xs t (line c.args.entry.user c.args.entry.kind c.args.entry.consumption c.args.entry.coefficient) vs _ (c.in_err-effect.ensures (day_in xs) t.1))

pub add-requires : goal.add-requires
add-requires c =
    let xs = c.args.day.now in
    let t : TestedNumbers xs (Ok c.in_ok-state.state) = c.in_ok-state.ensures in
    let a = c.args.entry in
    let e = c.in_ok-effect.effect in
    let L : Lines a.user a.kind a.consumption a.coefficient (day_in xs) e.place e.added = c.in_ok-effect.ensures (day_in xs) t.1 in
    record { day_len = (long xs t, L.place, L.amount, L.added); within = (effect.consumption_room xs t.0 a.user a.kind a.consumption a.coefficient e.place e.added L, effect.losses_room xs t.0 a.user a.kind a.consumption a.coefficient e.place e.added L) }

pub returns : goal.returns
returns c =
    let xs = c.args.day.now in
    let t : TestedNumbers xs (Ok c.in_ok-state.state) = c.in_ok-state.ensures in
    let a = c.args.entry in
    let e = c.in_ok-effect.effect in
    let L : Lines a.user a.kind a.consumption a.coefficient (day_in xs) e.place e.added = c.in_ok-effect.ensures (day_in xs) t.1 in
    λ vs. effect.lined xs t.0 a.user a.kind a.consumption a.coefficient e.place e.added L vs refl refl c.add.ensures
