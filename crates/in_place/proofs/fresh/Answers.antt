-- `in_place::fresh` meets its contract. Assumes nothing.
use Rattle.in_place.proofs.Effects.{fresh_refused, fresh_done}
use Rattle.in_place.proofs.fresh.Goals as goal

pub returns-then-day-ne-LENGTH : goal.returns-then-day-ne-LENGTH
returns-then-day-ne-LENGTH c =
    fresh_refused c.args.day.now c.if-day-ne-LENGTH.true

pub returns : goal.returns
returns c =
    fresh_done c.args.day.now _ c.if-day-ne-LENGTH.false c.clear.ensures
