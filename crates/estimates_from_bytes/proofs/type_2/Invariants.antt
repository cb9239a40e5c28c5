use Rattle.console.specs.Input.{Onward}
use Rattle.estimates_from_bytes.proofs.type_2.Given as goal

abbrev pub invariant-loop : goal.invariant-loop
invariant-loop l = Onward l.initial.input l.input
