use mathlib.Core.Path.{◌≡◌}
use mathlib.Core.List.{◌++◌}
use Prim.Native.Nat.{◌+◌, ◌*◌, ◌≤◌}
use lib.ListN.{length, take}
use Rattle.day_file.specs.Text.{spaced}
use Rattle.report.specs.Lines.{NUMBER}
use Rattle.report.proofs.refusal.Writing.{Put}
use Rattle.report.proofs.lines.put_line.Given as goal

abbrev pub invariant-loop-number : goal.invariant-loop-number
invariant-loop-number l =
    Put l.fn.text.buffer.now l.fn.text.len (l.word ++ spaced (take l.number-index l.numbers)) l.text.buffer.now l.text.len
    × (l.text.len ≤ l.fn.text.len + length l.word + NUMBER * l.number-index)
    × (l.text.buffer.ghost_name ≡ l.fn.text.buffer.ghost_name)
