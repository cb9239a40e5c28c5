-- `inventory::cells::Amounts::write_rows` meets its contract. Assumes nothing.
use mir.Syntax.{w64}
use mir.Val.{SFits}
use mir.Facts.{to_z-of_z}
use Rattle.numbers.specs.Sums.{atZ}
use Rattle.inventory.proofs.cells.Rows.{none_written, row_fits, more_written}
use borrow.Author.Rules.{rules}
use native.Mathlib.Omega.{arith}
use Rattle.inventory.proofs.cells.Amounts.write_rows.Goals as goal

pub loop-i-init : goal.loop-i-init
loop-i-init c = none_written _ _ _ _ _

pub write-place-requires : goal.write-place-requires
write-place-requires c =
    let a = c.args in
    let i = c.loop-i.i in
    let hc : SFits w64 (atZ a.self.now.consumption.now i) = search rules in
    let hl : SFits w64 (atZ a.self.now.losses.now i) = search rules in
    let hb : SFits w64 (atZ a.self.now.balance.now i) = search rules in
    (omega arith, rw (to_z-of_z hc, to_z-of_z hl, to_z-of_z hb) (row_fits _ _ _ _ _ _ _ _ c.loop-i.invariant a.n c.loop-i-test.true c.requires.2))

pub loop-i-preserved : goal.loop-i-preserved
loop-i-preserved c =
    let a = c.args in
    let i = c.loop-i.i in
    let hc : SFits w64 (atZ a.self.now.consumption.now i) = search rules in
    let hl : SFits w64 (atZ a.self.now.losses.now i) = search rules in
    let hb : SFits w64 (atZ a.self.now.balance.now i) = search rules in
    more_written _ _ _ _ _ _ _ _ c.loop-i.invariant (rw (to_z-of_z hc, to_z-of_z hl, to_z-of_z hb) at c.write-place.ensures) c.write-place.auto.out
