-- `in_place::inventory` meets its contract: what its tests find, it does. Assumes nothing.
use mathlib.Core.Path.{sym}
use Rattle.numbers.proofs.Refusals.{refusal_passed}
use Rattle.taken.proofs.Facts.{known_few}
use Rattle.plain_day.specs.Layout.{day_in}
use Rattle.in_place.proofs.Listing.{no_day, lists}
use Rattle.in_place.proofs.Taken.{long}
use Rattle.in_place.proofs.inventory.Goals as goal

pub returns-in_err-state : goal.returns-in_err-state
returns-in_err-state c =
    let t = c.in_err-state.ensures in
    let g = no_day c.args.day.now c.args.out.now t.0 in
    record { result_value = rw (refusal_passed _ _ c.from_residual.ensures.1, t.1) g.0; afterwards = g.1 }

pub amounts_in-amounts-requires : goal.amounts_in-amounts-requires
amounts_in-amounts-requires c = long c.args.day.now c.in_ok-state.ensures

pub list_taken-requires : goal.list_taken-requires
list_taken-requires c = known_few c.in_ok-state.ensures.1

pub returns : goal.returns
returns c =
    let t = c.in_ok-state.ensures in
    let m = c.amounts_in-amounts.ensures in
    let g = lists c.args.day.now c.args.out.now t.0 _ _ (c.list_taken.ensures (day_in c.args.day.now) t.1 (sym m.0) (sym m.1) (sym m.2)) in
    record { result_value = g.0; afterwards = g.1 }
