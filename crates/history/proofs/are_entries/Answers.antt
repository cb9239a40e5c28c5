-- `history::are_entries` meets its contract. All entries are in range just where they are so far and the rest is. Assumes nothing.
use mathlib.Core.Path.{ap, sym, ◌∙◌}
use Prim.Native.Nat.{◌+◌}
use native.Mathlib.Omega.{arith}
use lib.ListN.{drop}
use Rattle.numbers.specs.Lists.{both, every}
use Rattle.numbers.proofs.Lists.{both_and, both_end}
use Rattle.numbers.proofs.Places.{every_step, every_end}
use Rattle.history.specs.History.{reading_right, entry_right}
use Rattle.history.proofs.Searching.{nothing}
use Rattle.history.proofs.are_entries.Goals as goal

pub loop-i-preserved : goal.loop-i-preserved
loop-i-preserved g c =
    let es = g.E.Entries.entries c.args.history.now in
    let l = c.loop-i in
    l.invariant
    ∙ ap (both l.right) (every_step entry_right nothing es l.i (omega (arith, c.count-i-end.ensures)) ∙ ap (λ b. both b (every entry_right (drop (l.i + 1) es))) (sym (c.is_reading-right.ensures ∙ ap reading_right c.reading.ensures)))
    ∙ both_and l.right c.is_reading-right.result _

pub returns : goal.returns
returns g c =
    let l = c.loop-i in
    sym (l.invariant ∙ ap (both l.right) (every_end entry_right nothing (g.E.Entries.entries c.args.history.now) l.i (omega (arith, c.count-i-end.ensures))) ∙ both_end l.right)
