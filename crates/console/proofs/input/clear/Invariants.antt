use Rattle.numbers.proofs.Filled.{Filled}
use Rattle.console.proofs.input.clear.Given as goal

abbrev pub invariant-loop-x : goal.invariant-loop-x
invariant-loop-x g l = Filled (λ i. g.T.Number.ZERO) l.initial.x-items l.x-index l.x-items
