-- `proration::weight_total` meets its contract: at most 366 weights have a sum that fits. Assumes nothing.
use Rattle.std.proofs.Common.{rules, arith, ◌≡◌, ◌<◌, ◌^◌, ◌∙◌}
use Rattle.std.specs.List.{sum}
use Rattle.numbers.proofs.Chains.{sum_is_total, total_fits}
use Rattle.proration.specs.Proration.{LARGEST_WEIGHT}
use Rattle.proration.proofs.weight_total.Goals as goal

pub sum-requires-clause-fits : goal.sum-requires-clause-fits
sum-requires-clause-fits c =
    let ws = c.args.ws.now in
    let h : sum ws < 2 ^ 64 = omega (arith, sum_is_total ws, total_fits LARGEST_WEIGHT ws c.requires.1) in
    search (rules, h)

pub returns : goal.returns
returns c =
    let e : c.sum.result ≡ sum c.args.ws.now = search rules in
    e ∙ sum_is_total c.args.ws.now
