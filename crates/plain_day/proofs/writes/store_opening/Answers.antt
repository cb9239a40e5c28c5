-- `plain_day::writes::store_opening` meets its contract. Assumes nothing.
use mathlib.Core.Path.{ap, ◌∙◌}
use mathlib.Core.List.{map}
use lib.IntN.{pos}
use lib.ListN.{length, set}
use Rattle.plain_day.specs.Layout.{ALLOTTED_AT, COUNT_AT, USERS_AT, put}
use Rattle.plain_day.proofs.writes.store_opening.Goals as goal

pub returns : goal.returns
returns c =
    let us = c.args.users.now in
    c.open_with.ensures ∙ ap (λ t. set (set t COUNT_AT (pos (length us))) ALLOTTED_AT (pos 1)) (c.put_users.ensures ∙ ap (put USERS_AT (map pos us)) c.put.ensures)
