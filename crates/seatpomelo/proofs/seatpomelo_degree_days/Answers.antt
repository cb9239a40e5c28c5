-- `seatpomelo::seatpomelo_degree_days` meets its contract. Assumes nothing.
use mathlib.Core.Path.{ap, ◌∙◌}
use mathlib.Core.List.{[], ◌∷◌}
use mir.Facts.{to_z-of_z}
use Rattle.seatpomelo.specs.Settled.{settles, size}
use Rattle.seatpomelo.proofs.Settling.{size_settled}
use Rattle.seatpomelo.proofs.seatpomelo_degree_days.Goals as goal

pub returns : goal.returns
returns c =
    let e = c.settle.ensures in
    rw (e.0, e.1)
    (size_settled c.degree_days.result c.args.fortieths.now
    ∙ ap (λ a. settles size a (c.args.fortieths.now ∷ [])) (rw (to_z-of_z c.ranges.tmin, to_z-of_z c.ranges.tmax) at c.degree_days.ensures))
