-- `split::largest_remainder::prorate_in` meets its contract: of weights that are all 0 each counts as 1. Assumes nothing.
use Rattle.proration.proofs.Prorated.{from_none, from_some}
use Rattle.std.proofs.Common.{arith}
use Rattle.split.proofs.largest_remainder.prorate_in.Goals as goal

pub returns-then-weights-eq0 : goal.returns-then-weights-eq0
returns-then-weights-eq0 g c =
    let a = c.args in
    from_none a.amount a.weights.each.now a.keys.now a.shares.now (omega arith) c.split_evenly.ensures

pub returns-else-weights-eq0 : goal.returns-else-weights-eq0
returns-else-weights-eq0 g c =
    let a = c.args in
    from_some a.amount a.weights.each.now a.keys.now a.shares.now (omega arith) c.split_counted.ensures
