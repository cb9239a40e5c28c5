-- `seatpomelo::seatpomelo_inventory` meets its contract. Assumes nothing.
use mathlib.Core.Path.{ap, ◌∙◌}
use Rattle.in_place.specs.Listing.{status, row_count}
use Rattle.seatpomelo.proofs.Settling.{listed_status, listed_count}
use Rattle.seatpomelo.proofs.seatpomelo_inventory.Goals as goal

pub returns : goal.returns
returns c =
    let e = c.settle_count.ensures in
    let i = c.inventory.ensures in
    record {
      value = rw e.0 (listed_status c.inventory.result ∙ ap status i.result_value);
      rows_after = rw e.1 (listed_count c.inventory.result c.args.rows.now ∙ ap (λ a. row_count a c.args.rows.now) i.result_value);
      afterwards = i.afterwards;
    }
