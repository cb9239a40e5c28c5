-- `split::largest_remainder::split_evenly` meets its contract. Assumes nothing.
use Rattle.std.proofs.Common.{sym, arith}
use Rattle.proration.specs.Proration.{LARGEST_WEIGHT}
use Rattle.proration.proofs.Prorated.{take_same, ones_total, ones_bounded, evenly}
use Rattle.split.proofs.largest_remainder.split_evenly.Goals as goal

pub invariant_of-weights : goal.invariant_of-weights
invariant_of-weights g c =
    let n = c.args.n in
    let e = take_same _ n 1 c.repeat-ones.ensures (omega arith) in
    record { summed = sym (ones_total n e); bounded = ones_bounded n e LARGEST_WEIGHT (omega arith) }

pub returns : goal.returns
returns g c =
    let a = c.args in
    evenly _ a.n a.amount a.keys.now a.shares.now c.repeat-ones.ensures (omega arith) c.split_counted.ensures
