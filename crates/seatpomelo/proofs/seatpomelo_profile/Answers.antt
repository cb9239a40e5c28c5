-- `seatpomelo::seatpomelo_profile` meets its contract. Assumes nothing.
use mathlib.Core.Path.{ap, ◌∙◌}
use mathlib.Core.List.{[], ◌∷◌}
use Rattle.seatpomelo.specs.Settled.{settles, number}
use Rattle.seatpomelo.proofs.Settling.{number_settled}
use Rattle.seatpomelo.proofs.seatpomelo_profile.Goals as goal

pub returns : goal.returns
returns c =
    let e = c.settle.ensures in
    rw (e.0, e.1) (number_settled c.profile.result c.args.wh.now ∙ ap (λ a. settles number a (c.args.wh.now ∷ [])) c.profile.ensures)
