use Rattle.std.proofs.Common.{length}
use Rattle.numbers.specs.Sums.{at}
use Rattle.proration.specs.Proration.{topped}
use Rattle.numbers.proofs.Filled.{Filled}
use Rattle.split.proofs.leftover.serve_ranked.Given as goal

abbrev pub invariant-loop-i : goal.invariant-loop-i
invariant-loop-i l = Filled (topped (at l.initial.shares) (at l.parties.rems.now) (at l.parties.keys.now) l.left (length l.parties.rems.now)) l.initial.shares l.i l.shares
