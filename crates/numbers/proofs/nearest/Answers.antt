-- `numbers::nearest` meets its contract: the quotient, and one more from half the divisor on. Assumes nothing.
use native.Mathlib.Omega.{arith}
use Rattle.numbers.proofs.Rounding.{nearest_low, nearest_high}
use Rattle.numbers.proofs.nearest.Goals as goal

pub returns-then-r-d : goal.returns-then-r-d
returns-then-r-d c = nearest_low c.args.n c.args.d c.requires (omega arith)

pub returns : goal.returns
returns c = nearest_high c.args.n c.args.d c.requires (omega arith)
