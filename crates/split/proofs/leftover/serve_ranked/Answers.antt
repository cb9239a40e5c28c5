-- `split::leftover::serve_ranked` meets its contract. Assumes nothing.
use Rattle.std.proofs.Common.{◌+◌, ltb, length, ap, ap₂, arith, refl, ◌∙◌}
use Rattle.numbers.specs.Sums.{at}
use Rattle.proration.specs.Proration.{before}
use Rattle.numbers.proofs.Sums.{bit_small}
use Rattle.numbers.proofs.Chains.{bit_from}
use Rattle.numbers.proofs.Filled.{fill_none, fill_step, fill_next, fill_end}
use Rattle.split.proofs.leftover.serve_ranked.Goals as goal

pub loop-i-init : goal.loop-i-init
loop-i-init c = fill_none _ _

pub overflow_add-shares : goal.overflow_add-shares
overflow_add-shares c =
    omega (
      arith,
      fill_next c.loop-i.invariant 0 (omega arith),
      c.requires.by_index c.loop-i.i (omega arith),
      bit_small (ltb c.count_ahead-ahead.result c.args.left) (bit_from c.from.ensures refl),
    )

pub loop-i-preserved : goal.loop-i-preserved
loop-i-preserved c =
    let p = c.args.parties.now in
    let inv = c.loop-i.invariant in
    let ahead = c.count_ahead-ahead.ensures ∙ ap₂ (before (at p.rems.now) (at p.keys.now) (length p.rems.now)) c.at.ensures.0 c.at.ensures.1 in
    fill_step inv (omega arith) (ap₂ ◌+◌ (fill_next inv 0 (omega arith)) (bit_from c.from.ensures (ap (λ r. ltb r c.args.left) ahead)))

pub returns : goal.returns
returns c = fill_end c.loop-i.invariant (omega arith)
