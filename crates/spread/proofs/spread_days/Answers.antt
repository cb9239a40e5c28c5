use native.Mathlib.Omega.{arith}
use Rattle.spread.proofs.Ranges.{in_range_facts}
use Rattle.spread.proofs.spread_days.Goals as goal

pub spread_in-requires-else-weights-le-MONTH : goal.spread_in-requires-else-weights-le-MONTH
spread_in-requires-else-weights-le-MONTH c =
    (c.requires.0, (in_range_facts c.args.reading c.args.weights.now c.requires.0).few, omega arith, c.requires.1)
