-- `plain_day::emissions_readable` meets its contract. Assumes nothing.
use mathlib.Core.Path.{◌≡◌}
use mathlib.Core.Bool.{true, false}
use mir.Facts.{to_z-of_z}
use Rattle.point_day.specs.Limits.{LIMIT}
use Rattle.plain_day.specs.Layout.{up_to, emissions_readable}
use Rattle.plain_day.proofs.emissions_readable.Goals as goal

pub returns-then-up_to : goal.returns-then-up_to
unfolding emissions_readable
returns-then-up_to c =
    let h = c.if-up_to.ensures in
    let f = to_z-of_z c.ranges.emission in
    let e : true ≡ up_to LIMIT c.args.emission = rw f at h in
    rw (← e) (rw (to_z-of_z c.ranges.downstream, c.unsigned_abs.ensures.value, f) at c.up_to-then-up_to.ensures)

pub returns-else-up_to : goal.returns-else-up_to
unfolding emissions_readable
returns-else-up_to c =
    let e : false ≡ up_to LIMIT c.args.emission = rw (to_z-of_z c.ranges.emission) at c.if-up_to.ensures in
    rw (← e) c.if-up_to.false
