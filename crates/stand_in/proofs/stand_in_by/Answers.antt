-- `stand_in::stand_in_by` meets its contract: its rows stand in lists of the right lengths. Assumes nothing.
use mathlib.Core.Path.{◌≡◌, sym, ap, ◌∙◌}
use Prim.Native.Nat.{◌*◌}
use borrow.Author.Rules.{rules}
use lib.ListN.{length}
use Rattle.point_day.specs.Limits.{USERS, ROWS}
use Rattle.point_day.specs.Calls.{stand_in}
use Rattle.point_day.specs.Struct.{rows_of, called}
use Rattle.stand_in.proofs.rows.Rows.{lengths_rows, rows_held}
use Rattle.stand_in.proofs.stand_in_by.Goals as goal

pub returns : goal.returns
returns c =
    let a = c.args in
    let rs = a.rows in
    let cl : length rs.counts ≡ ROWS = search rules in
    let ul : length rs.users ≡ USERS * ROWS = search rules in
    let zl : length rs.amounts ≡ USERS * ROWS = search rules in
    let e = rows_held rs.counts rs.users rs.amounts (lengths_rows rs.counts rs.users rs.amounts cl ul zl) in
    c.stand_in_lists.ensures ∙ sym (ap (λ r. called (stand_in a.tolerance (rows_of r)) a.day) e)
