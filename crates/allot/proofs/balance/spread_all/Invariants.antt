use Rattle.numbers.specs.Sums.{atZ}
use Rattle.point_day.specs.Calls.{with_share}
use Rattle.allot.specs.UserWeights.{consumption_and_losses}
use Rattle.allot.specs.Basis.{are_all}
use Rattle.allot.proofs.balance.Parts.{Parts}
use Rattle.allot.proofs.balance.spread_all.Given as goal

abbrev pub invariant-loop-s : goal.invariant-loop-s
invariant-loop-s l = Parts (λ k. (with_share (are_all l.kinds) (consumption_and_losses l.offtakes.consumption.now l.offtakes.losses.now k) (atZ l.shares k)).balance) l.initial.cells l.s l.cells
