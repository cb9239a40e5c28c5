-- `stand_in::rows::numbers_right` meets its contract. Assumes nothing.
use native.Mathlib.Omega.{arith}
use Rattle.stand_in.proofs.rows.Rising.{risen_all, risen_stop}
use Rattle.stand_in.proofs.rows.numbers_right.Goals as goal

pub returns-then-user-last : goal.returns-then-user-last
returns-then-user-last c = risen_stop _ c.loop-user.invariant (omega arith) (omega arith)

pub returns : goal.returns
returns c = risen_all _ c.loop-user.invariant (omega arith)
