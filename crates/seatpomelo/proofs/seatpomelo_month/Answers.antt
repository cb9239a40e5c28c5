-- `seatpomelo::seatpomelo_month` meets its contract. Assumes nothing.
use mathlib.Core.Path.{ap}
use mathlib.Core.List.{[], ◌∷◌}
use Rattle.seatpomelo.specs.Settled.{settles, month_numbers}
use Rattle.seatpomelo.proofs.seatpomelo_month.Goals as goal

pub returns-in-Ok : goal.returns-in-Ok
returns-in-Ok c = rw (c.from.ensures, c.from-in-Ok.ensures, c.from-in-Ok-2.ensures, c.from-in-Ok-3.ensures) (ap (λ a. settles month_numbers a (c.args.first.now ∷ c.args.days.now ∷ c.args.mask.now ∷ c.args.working.now ∷ [])) c.in-Ok.ensures)

pub returns-in-Err : goal.returns-in-Err
returns-in-Err c = rw c.status.ensures (ap (λ a. settles month_numbers a (c.args.first.now ∷ c.args.days.now ∷ c.args.mask.now ∷ c.args.working.now ∷ [])) c.in-Err.ensures)
