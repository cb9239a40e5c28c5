use lib.IntN.{◌+ℤ◌}
use Rattle.numbers.specs.Sums.{atZ}
use Rattle.numbers.proofs.Filled.{Filled}
use Rattle.revise.proofs.outstanding.add_columns.Given as goal

abbrev pub invariant-loop-i : goal.invariant-loop-i
invariant-loop-i l = Filled (λ k. atZ l.xs k +ℤ atZ l.ys k) l.initial.sums l.i l.sums
