-- `split::largest_remainder::split` meets its contract: whole units, then the units left over. Assumes nothing.
use Rattle.std.proofs.Common.{le_trans, arith}
use Rattle.split.proofs.largest_remainder.Steps.{given_le, floor_small, both_steps}
use Rattle.split.proofs.largest_remainder.split.Goals as goal

pub overflow_sub-amount : goal.overflow_sub-amount
overflow_sub-amount c = given_le c.args.amount c.args.weights.each.now c.args.keys.now c.args.shares.now (omega arith) c.args.weights.summed c.floors-given.ensures.value

pub serve-requires : goal.serve-requires
serve-requires c =
    let long = c.floors-given.auto in record { room = omega arith; by_index = λ i l. le_trans (floor_small c.args.amount c.args.weights.each.now c.args.keys.now c.args.shares.now (omega arith) c.args.weights.summed c.floors-given.ensures.shares_after i (omega arith)) c.requires.amount_bound.0 }

pub returns : goal.returns
returns c = both_steps c.args.amount c.args.weights.each.now c.args.keys.now c.args.shares.now (omega arith) c.args.weights.summed c.floors-given.ensures.shares_after c.floors-given.ensures.value c.floors-given.ensures.rems_after c.serve.ensures
