use Rattle.numbers.specs.Sums.{at}
use Rattle.split.specs.Cut.{cut_at}
use Rattle.numbers.proofs.Filled.{Filled}
use Rattle.split.proofs.leftover.serve_ahead.Given as goal

abbrev pub invariant-loop-i : goal.invariant-loop-i
invariant-loop-i l = Filled (cut_at (at l.initial.shares) (at l.parties.rems.now) (at l.parties.keys.now) l.cut.rem l.cut.key) l.initial.shares l.i l.shares
