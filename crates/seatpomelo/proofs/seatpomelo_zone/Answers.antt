-- `seatpomelo::seatpomelo_zone` meets its contract. Assumes nothing.
use mathlib.Core.Path.{ap, ◌∙◌}
use mathlib.Core.List.{[], ◌∷◌}
use Rattle.seatpomelo.specs.Settled.{settles, number}
use Rattle.seatpomelo.proofs.Settling.{number_settled}
use Rattle.seatpomelo.proofs.seatpomelo_zone.Goals as goal

pub returns : goal.returns
returns c =
    let e = c.settle.ensures in
    rw (e.0, e.1) (number_settled c.zone_of.result c.args.zone.now ∙ ap (λ a. settles number a (c.args.zone.now ∷ [])) c.zone_of.ensures)
