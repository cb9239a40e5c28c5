use lib.IntN.{negsuc}
use Rattle.numbers.proofs.Filled.{Filled}
use Rattle.console.proofs.input.lent_numbers.Given as goal

abbrev pub invariant-loop-i : goal.invariant-loop-i
invariant-loop-i l = Filled negsuc l.initial.number-items l.i l.number-items
