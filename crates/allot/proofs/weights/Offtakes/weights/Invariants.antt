use Rattle.numbers.proofs.Filled.{Filled}
use Rattle.allot.specs.UserWeights.{weight_at}
use Rattle.allot.specs.Basis.{are_all}
use Rattle.allot.proofs.weights.Offtakes.weights.Given as goal

abbrev pub invariant-loop-s : goal.invariant-loop-s
invariant-loop-s l = Filled (weight_at (are_all l.kinds) l.self.consumption.now l.self.losses.now) l.initial.ws l.s l.ws
