-- `in_place::allot` meets its contract: what its tests find, it does. Assumes nothing.
use mathlib.Core.Path.{refl, sym, ◌∙◌}
use mathlib.Core.List.{[]}
use borrow.Author.Rules.{rules}
use Rattle.std.specs.Prelude.{Ok}
use Rattle.numbers.proofs.Refusals.{status_passed, refused_not_0}
use Rattle.point_day.specs.Calls.{allot}
use Rattle.plain_day.specs.Layout.{day_in}
use Rattle.plain_day.specs.Tested.{TestedNumbers}
use Rattle.plain_day.proofs.Outcomes.{untaken}
use Rattle.in_place.proofs.Effects as effect
use Rattle.in_place.proofs.Taken.{long, refused_by}
use Rattle.in_place.proofs.allot.Goals as goal

pub returns-in_err-state : goal.returns-in_err-state
returns-in_err-state c = rw (status_passed _ _ c.from_residual.ensures.1) (untaken allot [] c.args.day.now c.in_err-state.ensures)

pub amounts_in-amounts-requires : goal.amounts_in-amounts-requires
amounts_in-amounts-requires c = long c.args.day.now c.in_ok-state.ensures

pub returns-in_err-taken_test : goal.returns-in_err-taken_test
returns-in_err-taken_test c =
    let xs = c.args.day.now in
    let t : TestedNumbers xs (Ok c.in_ok-state.state) = c.in_ok-state.ensures in
    let m = c.amounts_in-amounts.ensures in
    rw (status_passed _ _ c.from_residual-in_err-taken_test.ensures.1) (refused_by xs t allot [] _ ((c.in_err-taken_test.ensures (day_in xs) t.1 (sym m.0) (sym m.1) (sym m.3)).failed (refused_not_0 _)))

pub taken_test-requires : goal.taken_test-requires
taken_test-requires c =
    let xs = c.args.day.now in
    let t : TestedNumbers xs (Ok c.in_ok-state.state) = c.in_ok-state.ensures in
    let m = c.amounts_in-amounts.ensures in
    (record { day = day_in xs; holds = record { known = t.1; consumption = sym m.0; losses = sym m.1; revision = sym m.3 } }, c.repeat-cells.ensures ∙ effect.no_cells)

pub store_balances-requires : goal.store_balances-requires
store_balances-requires c = (long c.args.day.now c.in_ok-state.ensures, search rules)

pub returns : goal.returns
returns c =
    let xs = c.args.day.now in
    let t : TestedNumbers xs (Ok c.in_ok-state.state) = c.in_ok-state.ensures in
    let m = c.amounts_in-amounts.ensures in
    effect.allots xs t.0 _ (search rules) ((c.in_ok-taken_test.ensures (day_in xs) t.1 (sym m.0) (sym m.1) (sym m.3)).passed refl) refl c.store_balances.ensures
