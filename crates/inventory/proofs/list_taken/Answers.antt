-- `inventory::list_taken` meets its contract, outcome by outcome, on any point-day that has these parts. Assumes nothing.
use mathlib.Core.Path.{◌≡◌, ◌∙◌}
use mathlib.Core.Bool.{true, false}
use Prim.Native.Nat.{◌*◌}
use native.Mathlib.Omega.{arith}
use borrow.Author.Rules.{rules}
use Rattle.point_day.specs.Limits.{KINDS}
use Rattle.inventory.specs.Listed.{row_total}
use Rattle.inventory.proofs.cells.Rows.{count_le}
use Rattle.inventory.proofs.Outcomes.{not_allotted, short, lists}
use Rattle.inventory.proofs.list_taken.Goals as goal

pub returns-then-not-state : goal.returns-then-not-state
returns-then-not-state c d k x y z =
    let e : c.args.state.now.allotted ≡ false = search rules in
    not_allotted d _ k.is_taken (k.allotted ∙ e)

pub overflow_mul-rows : goal.overflow_mul-rows
overflow_mul-rows c =
    let a = c.args in
    omega (arith, c.count_rows-rows.ensures, count_le a.consumption.now a.losses.now a.balance.now (KINDS * a.state.now.count), c.requires)

pub returns-then-out-rows : goal.returns-then-out-rows
returns-then-out-rows c d k x y z =
    let a : c.args.state.now.allotted ≡ true = search rules in
    let e : c.count_rows-rows.result ≡ row_total d = rw (k.count, x, y, z) c.count_rows-rows.ensures in
    short d _ k.is_taken (k.allotted ∙ a) (omega (arith, c.if-out-rows.true, e))

pub returns : goal.returns
returns c d k x y z =
    let a : c.args.state.now.allotted ≡ true = search rules in
    let n = c.count_rows-rows in
    let e : n.result ≡ row_total d = rw (k.count, x, y, z) n.ensures in
    lists d _ k.is_taken (k.allotted ∙ a) (omega (arith, c.if-out-rows.false, e)) n.result e _ (rw (k.count, k.users, x, y, z) c.write_rows.ensures)
