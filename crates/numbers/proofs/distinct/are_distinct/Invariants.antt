use Rattle.std.proofs.Common.{map}
use Rattle.numbers.proofs.Buckets.{Scanned}
use Rattle.numbers.proofs.distinct.are_distinct.Given as goal

abbrev pub invariant-loop-i : goal.invariant-loop-i
invariant-loop-i g l = Scanned (map g.T.Natural.number l.xs) l.marks.marked l.i
