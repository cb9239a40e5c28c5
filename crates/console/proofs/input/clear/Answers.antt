use native.Mathlib.Omega.{arith}
use Rattle.numbers.proofs.Filled.{fill_step}
use Rattle.console.proofs.input.clear.Goals as goal

pub loop-x-preserved : goal.loop-x-preserved
loop-x-preserved g c = fill_step c.loop-x.invariant (omega arith) c.ZERO.ensures
