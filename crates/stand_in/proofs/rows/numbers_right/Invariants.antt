use Rattle.stand_in.proofs.rows.Rising.{Risen}
use Rattle.stand_in.proofs.rows.numbers_right.Given as goal

abbrev pub invariant-loop-user : goal.invariant-loop-user
invariant-loop-user l = Risen l.users l.last l.user-index
