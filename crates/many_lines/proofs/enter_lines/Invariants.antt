use mathlib.Core.Path.{◌≡◌}
use Prim.Native.Nat.{◌≤◌}
use lib.ListN.{length}
use Rattle.plain_day.specs.Layout.{day_in}
use Rattle.plain_day.specs.Lines.{line_in}
use Rattle.many_lines.proofs.Lining.{Accepted}
use Rattle.many_lines.proofs.enter_lines.Given as goal

abbrev pub invariant-loop-i : goal.invariant-loop-i
invariant-loop-i l =
    (l.i ≤ length l.lines.users.now)
    × (length l.day ≡ length l.initial.day)
    × Accepted (line_in l.lines.users.now l.lines.kinds.now l.lines.consumptions.now l.lines.coefficients.now) l.initial.day (day_in l.initial.day).users (length l.joined) l.day l.sum l.losses l.i
