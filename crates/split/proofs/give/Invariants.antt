use Rattle.std.proofs.Common.{◌≤◌, length, get_or}
use Rattle.numbers.proofs.Filled.{Filled}
use Rattle.numbers.specs.Amounts.{signed}
use Rattle.split.proofs.give.Given as goal

abbrev pub invariant-loop-i : goal.invariant-loop-i
invariant-loop-i l = (l.i ≤ length l.shares) × Filled (λ k. signed l.negative (get_or l.shares k 0)) l.initial.out l.i l.out
