-- `inventory::cells::Amounts::count_rows` meets its contract. Assumes nothing.
use mathlib.Core.Path.{ap, ◌∙◌}
use mir.Syntax.{w64}
use mir.Val.{SFits}
use mir.Facts.{to_z-of_z}
use Rattle.numbers.specs.Sums.{atZ, bit}
use Rattle.numbers.proofs.Sums.{bit_one}
use Rattle.inventory.proofs.cells.Rows.{bool_bit, count_none, count_more}
use borrow.Author.Rules.{rules}
use native.Mathlib.Omega.{arith}
use Rattle.inventory.proofs.cells.Amounts.count_rows.Goals as goal

pub loop-i-init : goal.loop-i-init
loop-i-init c = (count_none _ _ _, omega arith)

pub loop-i-preserved : goal.loop-i-preserved
loop-i-preserved c =
    let a = c.args in
    let i = c.loop-i.i in
    let hc : SFits w64 (atZ a.self.now.consumption.now i) = search rules in
    let hl : SFits w64 (atZ a.self.now.losses.now i) = search rules in
    let hb : SFits w64 (atZ a.self.now.balance.now i) = search rules in
    let e = rw (to_z-of_z hc, to_z-of_z hl, to_z-of_z hb) at c.is_row.ensures in
    let k = c.from-count.ensures ∙ bool_bit c.is_row.result ∙ ap bit e in
    (omega (arith, k, count_more a.self.now.consumption.now a.self.now.losses.now a.self.now.balance.now i), omega (arith, k, bit_one c.is_row.result, ap bit e))
