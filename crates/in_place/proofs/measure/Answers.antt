-- `in_place::measure` meets its contract: what its tests find, it does. Assumes nothing.
use mathlib.Core.Path.{◌≡◌, refl, sym, ap, ◌∙◌}
use mathlib.Core.List.{[], ◌∷◌, ◌++◌}
use Prim.Native.Nat.{◌-◌}
use native.Mathlib.Omega.{arith}
use lib.IntN.{pos}
use lib.ListN.{length, take, set, replicate}
use borrow.Author.Rules.{rules}
use Rattle.std.specs.Prelude.{Ok, Err}
use Rattle.numbers.proofs.Refusals.{status_passed, refusal_passed, refused_not_0}
use Rattle.point_day.specs.Limits.{CELLS, TOLERANCE}
use Rattle.point_day.specs.Calls.{join, line, measure, allot, revise, start_final, stand_in}
use Rattle.point_day.specs.Day.{next}
use Rattle.point_day.specs.Struct.{rows_of}
use Rattle.taken.proofs.Facts.{known_few, known_sum, known_measurement}
use Rattle.stand_in.specs.Rows.{rows_in}
use Rattle.plain_day.specs.Layout.{STAGE_AT, ALLOTTED_AT, CONSUMPTION_AT, LOSSES_AT, BALANCE_AT, day_in, stage_number}
use Rattle.plain_day.specs.Tested.{TestedNumbers}
use Rattle.plain_day.proofs.Outcomes.{untaken}
use Rattle.plain_day.proofs.Ranges.{part_length}
use Rattle.in_place.proofs.Effects as effect
use Rattle.in_place.proofs.Taken.{long, stage_read, refused_by}
use Rattle.in_place.proofs.measure.Goals as goal

pub returns-in_err-state : goal.returns-in_err-state
returns-in_err-state c = rw (status_passed _ _ c.from_residual.ensures.1) (untaken (measure c.args.emission c.args.downstream) [] c.args.day.now c.in_err-state.ensures)

pub returns-in_err-taken_test : goal.returns-in_err-taken_test
returns-in_err-taken_test c =
    let xs = c.args.day.now in
    let t : TestedNumbers xs (Ok c.in_ok-state.state) = c.in_ok-state.ensures in
    rw (status_passed _ _ c.from_residual-in_err-taken_test.ensures.1) (refused_by xs t (measure c.args.emission c.args.downstream) [] _ ((c.in_err-taken_test.ensures (day_in xs) t.1).failed (refused_not_0 _)))

pub store_measurement-requires : goal.store_measurement-requires
store_measurement-requires c =
    let xs = c.args.day.now in
    let t : TestedNumbers xs (Ok c.in_ok-state.state) = c.in_ok-state.ensures in
    let m = (c.in_ok-taken_test.ensures (day_in xs) t.1).passed refl in
    (long xs t, effect.emission_low xs t.0 c.args.emission c.args.downstream m, effect.downstream_low xs t.0 c.args.emission c.args.downstream m)

pub returns : goal.returns
returns c =
    let xs = c.args.day.now in
    let t : TestedNumbers xs (Ok c.in_ok-state.state) = c.in_ok-state.ensures in
    effect.measured xs t.0 c.args.emission c.args.downstream ((c.in_ok-taken_test.ensures (day_in xs) t.1).passed refl) refl c.store_measurement.ensures
