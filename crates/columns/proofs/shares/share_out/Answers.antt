-- `columns::shares::share_out` meets its contract. Assumes nothing.
use mathlib.Core.Path.{sym}
use native.Mathlib.Omega.{arith}
use lib.ListN.{length}
use mir.Facts.{to_z-of_z}
use Rattle.proration.proofs.Prorated.{take_long}
use Rattle.point_day.specs.Limits.{USERS}
use Rattle.columns.proofs.shares.share_out.Goals as goal

pub slice_bounds-share_by-end : goal.slice_bounds-share_by-end
slice_bounds-share_by-end c = take_long USERS _ 0 c.repeat-keys.ensures (omega arith)

pub slice_bounds-share_by-end-2 : goal.slice_bounds-share_by-end-2
slice_bounds-share_by-end-2 c = take_long USERS _ 0 c.repeat-sizes.ensures (omega arith)

pub share_by-requires : goal.share_by-requires
share_by-requires c =
    let p = c.requires in
    let n = length c.args.users.now in
    let k = take_long USERS n 0 c.repeat-keys.ensures (omega arith) in
    let w = take_long USERS n 0 c.repeat-sizes.ensures (omega arith) in record { within = (rw (to_z-of_z c.ranges.amount) p.within.0, p.within.1, p.within.2, p.within.3, p.within.4); weight_sum_value = (p.weight_sum_value.0, sym k, sym w, p.weight_sum_value.1) }

pub returns : goal.returns
returns c = rw (to_z-of_z c.ranges.amount) at c.share_by.ensures
