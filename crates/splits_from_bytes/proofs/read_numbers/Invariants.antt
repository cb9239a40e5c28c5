use Rattle.console.specs.Input.{Onward}
use Rattle.splits_from_bytes.proofs.read_numbers.Given as goal

abbrev pub invariant-loop-x : goal.invariant-loop-x
invariant-loop-x l = Onward l.initial.input l.input
