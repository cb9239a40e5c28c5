-- `state::slot_of` meets its contract: the user stands in no slot passed so far. Assumes nothing.
use native.Mathlib.Omega.{arith}
use Rattle.numbers.proofs.Lists.{scan_none, scan_more}
use Rattle.state.proofs.slot_of.Goals as goal

pub loop-i-init : goal.loop-i-init
loop-i-init c = scan_none _

pub loop-i-preserved : goal.loop-i-preserved
loop-i-preserved c = scan_more c.args.user c.args.users.now c.loop-i.i (omega arith) c.loop-i.invariant c.if-number-user.false
