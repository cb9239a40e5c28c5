-- `seatpomelo::seatpomelo_stand_in` meets its contract. Assumes nothing.
use mathlib.Core.Path.{◌∙◌}
use mathlib.Core.List.{[], ◌∷◌}
use lib.IntN.{pos}
use Rattle.seatpomelo.proofs.Settling.{amount_settled}
use Rattle.seatpomelo.proofs.seatpomelo_stand_in.Goals as goal

pub returns : goal.returns
returns c =
    let e = c.settle_count.ensures in
    rw (e.0, e.1) (amount_settled c.stand_in.result c.args.rows_looked_at.now _ ∙ c.stand_in.ensures (pos c.args.rows_looked_at.now ∷ []))
