-- `split::give` meets its contract. Assumes nothing.
use Rattle.std.proofs.Common.{get_or, ap, ◌∙◌, arith, w64, to_z, of_z}
use Rattle.numbers.proofs.Filled.{fill_none, fill_step, fill_end}
use Rattle.numbers.proofs.Amounts.{back, within_sign}
use Rattle.split.proofs.give.Goals as goal

pub loop-i-init : goal.loop-i-init
loop-i-init c = (omega arith, fill_none _ _)

pub with_sign-requires : goal.with_sign-requires
with_sign-requires c = omega (arith, c.requires.1 c.loop-i.i)

pub loop-i-preserved : goal.loop-i-preserved
loop-i-preserved c =
    let i = c.loop-i.i in
    let e = c.with_sign.ensures in
    (omega arith, fill_step c.loop-i.invariant.1 (omega arith) (ap (λ z. to_z w64 (of_z w64 z)) e ∙ back (within_sign c.args.negative (get_or c.args.shares.now i 0)) (omega (arith, c.requires.1 i))))

pub returns : goal.returns
returns c = fill_end c.loop-i.invariant.1 (omega arith)
