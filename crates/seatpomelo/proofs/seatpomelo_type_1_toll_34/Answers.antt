-- `seatpomelo::seatpomelo_type_1_toll_34` meets its contract. Assumes nothing.
use mathlib.Core.Path.{ap, ◌∙◌}
use mathlib.Core.List.{[], ◌∷◌}
use Rattle.seatpomelo.specs.Settled.{settles, number}
use Rattle.seatpomelo.proofs.Settling.{number_settled}
use Rattle.seatpomelo.proofs.seatpomelo_type_1_toll_34.Goals as goal

pub returns : goal.returns
returns c =
    let e = c.settle.ensures in
    rw (e.0, e.1) (number_settled c.toll_34.result c.args.consumption.now ∙ ap (λ a. settles number a (c.args.consumption.now ∷ [])) (rw (c.amount_in.ensures, c.amount_in-2.ensures, c.amount_in-3.ensures) at c.toll_34.ensures))
