-- `calendar::are_rising` meets its contract. The whole list rises just where it rises so far and the rest does. Assumes nothing.
use mathlib.Core.Path.{sym, ◌∙◌, ap}
use Prim.Native.Nat.{◌-◌}
use native.Mathlib.Omega.{arith}
use Rattle.numbers.specs.Lists.{both}
use Rattle.numbers.proofs.Lists.{both_and, both_end}
use Rattle.calendar.proofs.Holidays.{rises_step, rises_end}
use Rattle.calendar.proofs.are_rising.Goals as goal

pub loop-i-preserved : goal.loop-i-preserved
loop-i-preserved c =
    let l = c.loop-i in
    l.invariant ∙ ap (both l.rises) (rises_step c.args.numbers.now l.i (omega arith) (omega arith)) ∙ both_and l.rises _ _

pub returns : goal.returns
returns c =
    let l = c.loop-i in
    sym (l.invariant ∙ ap (both l.rises) (rises_end c.args.numbers.now (l.i - 1) (omega arith)) ∙ both_end l.rises)
