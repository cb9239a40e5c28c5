-- `columns::sizes_of` meets its contract. Assumes nothing.
use mathlib.Core.Path.{ap, ◌∙◌}
use mathlib.Core.List.{◌++◌}
use native.Mathlib.Omega.{arith}
use lib.ListN.{length, drop}
use mir.Syntax.{w64}
use mir.Val.{SFits}
use mir.Facts.{to_z-of_z}
use Rattle.numbers.specs.Sums.{atZ}
use Rattle.numbers.proofs.Filled.{fill_none, fill_step, fill_end}
use Rattle.columns.proofs.Tables.{table_sizes}
use borrow.Author.Rules.{rules}
use Rattle.columns.proofs.sizes_of.Goals as goal

pub loop-i-init : goal.loop-i-init
loop-i-init c = (omega arith, fill_none _ _)

pub loop-i-preserved : goal.loop-i-preserved
loop-i-preserved c =
    let h : SFits w64 (atZ c.args.amounts.now c.loop-i.i) = search rules in
    (omega arith, fill_step c.loop-i.invariant.1 (omega arith) (rw (to_z-of_z h) at c.unsigned_abs.ensures.value))

pub returns : goal.returns
returns c =
    let zs = c.args.amounts.now in
    fill_end c.loop-i.invariant.1 (omega arith) ∙ ap (λ t. t ++ drop (length zs) c.args.sizes.now) (table_sizes zs)
