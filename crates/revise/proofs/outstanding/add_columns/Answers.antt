-- `revise::outstanding::add_columns` meets its contract. Assumes nothing.
use mathlib.Core.Path.{◌≡◌, ap, ◌∙◌}
use native.Mathlib.Omega.{arith}
use lib.Dec.{lit<}
use lib.IntN.{◌+ℤ◌}
use mir.Syntax.{w64}
use mir.Val.{SFits, to_z, of_z}
use mir.Facts.{to_z-of_z}
use Rattle.numbers.specs.Sums.{atZ}
use Rattle.numbers.proofs.Amounts.{within_add, back}
use Rattle.numbers.proofs.Filled.{fill_none, fill_step, fill_end}
use borrow.Author.Rules.{rules}
use Rattle.revise.proofs.outstanding.add_columns.Goals as goal

pub loop-i-init : goal.loop-i-init
loop-i-init c = fill_none _ _

pub loop-i-preserved : goal.loop-i-preserved
loop-i-preserved c =
    let i = c.loop-i.i in
    let h : SFits w64 (atZ c.args.xs.now i) = search rules in
    let k : SFits w64 (atZ c.args.ys.now i) = search rules in
    let e : c.plus.result ≡ atZ c.args.xs.now i +ℤ atZ c.args.ys.now i = (rw (to_z-of_z h, to_z-of_z k) at c.plus.ensures) in
    fill_step c.loop-i.invariant (omega arith) (ap (λ z. to_z w64 (of_z w64 z)) e ∙ back (within_add (c.requires.by_index.0 i) (c.requires.by_index.1 i)) (lit< tt))

pub returns : goal.returns
returns c = fill_end c.loop-i.invariant (omega arith)
