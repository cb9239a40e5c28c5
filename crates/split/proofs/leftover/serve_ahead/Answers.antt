-- `split::leftover::serve_ahead` meets its contract. Assumes nothing.
use Rattle.std.proofs.Common.{◌+◌, ap₂, arith, refl, ◌∙◌}
use Rattle.proration.specs.Proration.{ahead}
use Rattle.numbers.proofs.Sums.{bit_small}
use Rattle.numbers.proofs.Chains.{bit_from}
use Rattle.numbers.proofs.Filled.{fill_none, fill_step, fill_next, fill_end}
use Rattle.split.proofs.leftover.serve_ahead.Goals as goal

pub loop-i-init : goal.loop-i-init
loop-i-init c = fill_none _ _

pub overflow_add-shares : goal.overflow_add-shares
overflow_add-shares c =
    omega (
      arith,
      fill_next c.loop-i.invariant 0 (omega arith),
      c.requires.by_index c.loop-i.i (omega arith),
      bit_small c.goes_before.result (bit_from c.from.ensures refl),
    )

pub loop-i-preserved : goal.loop-i-preserved
loop-i-preserved c =
    let a = c.args in
    let inv = c.loop-i.invariant in
    let served = c.goes_before.ensures ∙ ap₂ (λ r k. ahead r k a.cut.rem a.cut.key) c.at.ensures.0 c.at.ensures.1 in
    fill_step inv (omega arith) (ap₂ ◌+◌ (fill_next inv 0 (omega arith)) (bit_from c.from.ensures served))

pub returns : goal.returns
returns c = fill_end c.loop-i.invariant (omega arith)
