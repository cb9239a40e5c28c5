-- `seatpomelo::seatpomelo_line` meets its contract. Assumes nothing.
use mathlib.Core.Path.{◌∙◌}
use mathlib.Core.List.{[], ◌∷◌}
use lib.IntN.{pos}
use Rattle.seatpomelo.proofs.Settling.{amount_settled}
use Rattle.seatpomelo.proofs.seatpomelo_line.Goals as goal

pub returns : goal.returns
returns c =
    let e = c.settle.ensures in
    rw (e.0, e.1) (amount_settled c.line.result c.args.losses_added.now _ ∙ c.line.ensures (pos c.args.losses_added.now ∷ []))
