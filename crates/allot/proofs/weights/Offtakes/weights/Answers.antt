-- `allot::weights::Offtakes::weights` meets its contract: a buffer that is filled slot by slot. Assumes nothing.
use Rattle.numbers.proofs.Filled.{fill_none, fill_step}
use native.Mathlib.Omega.{arith}
use Rattle.allot.proofs.weights.Offtakes.weights.Goals as goal

pub loop-s-init : goal.loop-s-init
loop-s-init c = fill_none _ _

pub loop-s-preserved : goal.loop-s-preserved
loop-s-preserved c = fill_step c.loop-s.invariant (omega arith) c.user_weight.ensures
