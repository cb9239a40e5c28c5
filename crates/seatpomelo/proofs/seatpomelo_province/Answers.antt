-- `seatpomelo::seatpomelo_province` meets its contract. Assumes nothing.
use mathlib.Core.Path.{ap}
use mathlib.Core.List.{[], ◌∷◌}
use Rattle.seatpomelo.specs.Settled.{settles, province_numbers}
use Rattle.seatpomelo.proofs.seatpomelo_province.Goals as goal

pub returns-in-Ok : goal.returns-in-Ok
returns-in-Ok c = rw (c.from.ensures, c.from-in-Ok.ensures) (ap (λ a. settles province_numbers a (c.args.value.now ∷ c.args.zone.now ∷ [])) c.in-Ok.ensures)

pub returns-in-Err : goal.returns-in-Err
returns-in-Err c = rw c.status.ensures (ap (λ a. settles province_numbers a (c.args.value.now ∷ c.args.zone.now ∷ [])) c.in-Err.ensures)
