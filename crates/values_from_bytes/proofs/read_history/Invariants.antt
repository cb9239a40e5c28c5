use Rattle.console.specs.Input.{Onward}
use Rattle.values_from_bytes.proofs.read_history.Given as goal

abbrev pub invariant-loop-entry : goal.invariant-loop-entry
invariant-loop-entry l = Onward l.initial.input l.input
