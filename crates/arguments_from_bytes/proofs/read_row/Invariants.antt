use Rattle.console.specs.Input.{Onward}
use Rattle.arguments_from_bytes.proofs.read_row.Given as goal

abbrev pub invariant-loop-j : goal.invariant-loop-j
invariant-loop-j l = Onward l.initial.input l.input
