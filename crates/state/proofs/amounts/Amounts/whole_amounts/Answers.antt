-- `state::amounts::Amounts::whole_amounts` meets its contract: a buffer that is filled slot by slot. Assumes nothing.
use mathlib.Core.Path.{◌≡◌, ap, ◌∙◌}
use native.Mathlib.Omega.{arith}
use lib.ListN.{length}
use mir.Syntax.{w64}
use mir.Val.{of_z, to_z}
use Rattle.numbers.proofs.Amounts.{back}
use Rattle.numbers.proofs.Filled.{fill_none, fill_step, fill_all}
use Rattle.state.proofs.Ranges.{whole_within}
use Rattle.state.proofs.amounts.Amounts.whole_amounts.Goals as goal

pub loop-s-init : goal.loop-s-init
loop-s-init c = (omega arith, fill_none _ _)

pub loop-s-preserved : goal.loop-s-preserved
loop-s-preserved c =
    let p = c.requires in
    let w = whole_within _ _ _ p.1 p.2 p.3 _ p.4 c.loop-s.s in
    (omega arith, fill_step c.loop-s.invariant.1 (omega arith) (ap (λ z. to_z w64 (of_z w64 z)) c.whole_amount.ensures ∙ back w (omega arith)))

pub returns : goal.returns
returns c =
    let e : c.loop-s.s ≡ length c.args.wholes.now = omega arith in
    rw e at (fill_all c.loop-s.invariant.1 (omega arith))
