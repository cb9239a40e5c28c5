-- `line::cells::line_cell` meets its contract. Assumes nothing.
use borrow.Author.Rules.{rules}
use Rattle.line.proofs.cells.Cells.{cell_added}
use Rattle.line.proofs.cells.line_cell.Goals as goal

pub add_at-requires : goal.add_at-requires
add_at-requires c = (search rules, search rules, c.requires.limited.0 _)

pub add_at-requires-2 : goal.add_at-requires-2
add_at-requires-2 c = (search rules, search rules, c.requires.limited.1 _)

pub returns : goal.returns
returns c =
    let a = c.args in
    let e = c.in_ok-added.ensures in
    let both = cell_added a.offtake a.entry.consumption a.entry.coefficient a.slot a.entry.kind a.consumption.now a.losses.now e (rw (← c.place-i.ensures.0) c.add_at.ensures) (rw (← c.place-i.ensures.0) c.add_at-2.ensures) in
    record { value = e; consumption_after = both.0; losses_after = both.1 }
