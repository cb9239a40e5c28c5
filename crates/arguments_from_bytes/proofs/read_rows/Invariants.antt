use Rattle.console.specs.Input.{Onward}
use Rattle.arguments_from_bytes.proofs.read_rows.Given as goal

abbrev pub invariant-loop-i : goal.invariant-loop-i
invariant-loop-i l = Onward l.initial.input l.input
