-- `line::line` meets its contract: what its tests find, it does. Assumes nothing.
use mathlib.Core.Path.{ap, ◌∙◌}
use native.Mathlib.Omega.{arith}
use borrow.Author.Rules.{rules}
use Rattle.point_day.specs.Limits.{LIMIT}
use Rattle.point_day.specs.Calls.{losses_added}
use Rattle.point_day.specs.Struct.{outcome}
use Rattle.state.proofs.Cells.{low_from}
use Rattle.taken.proofs.Facts.{facts}
use Rattle.line.proofs.line.Goals as goal

pub returns-in-Err : goal.returns-in-Err
returns-in-Err c = c.refuse.ensures ∙ c.in-Err.ensures

pub line_at-next-requires : goal.line_at-next-requires
line_at-next-requires c =
    let d = c.args.day in
    let L = c.in-Ok.ensures in
    let F = facts d (search rules) L.taken in
    (L.place, L.amount, L.added, low_from LIMIT d.consumption F.arrays.consumption.range LIMIT (omega arith) _, low_from LIMIT d.losses F.arrays.losses.range LIMIT (omega arith) _)

pub returns-in-Ok : goal.returns-in-Ok
returns-in-Ok c = c.accept.ensures ∙ ap (outcome (losses_added c.in-Ok.effect.added)) c.line_at-next.ensures ∙ c.in-Ok.ensures.is
