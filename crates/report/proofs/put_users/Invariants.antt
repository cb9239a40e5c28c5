use mathlib.Core.Path.{◌≡◌}
use Prim.Native.Nat.{◌≤◌, ◌+◌, ◌*◌}
use Rattle.numbers.specs.Sums.{table}
use Rattle.numbers.specs.Lists.{flat}
use Rattle.report.specs.Lines.{LONGEST_LINE, slot_line}
use Rattle.report.proofs.refusal.Writing.{Put}
use Rattle.report.proofs.put_users.Given as goal

abbrev pub invariant-loop-slot : goal.invariant-loop-slot
invariant-loop-slot l =
    Put l.fn.text.buffer.now l.fn.text.len (flat (table (slot_line l.slots.users.now l.slots.consumption.now l.slots.losses.now l.slots.shares.now) l.slot)) l.text.buffer.now l.text.len
    × (l.text.len ≤ l.fn.text.len + LONGEST_LINE * l.slot)
    × (l.text.buffer.ghost_name ≡ l.fn.text.buffer.ghost_name)
