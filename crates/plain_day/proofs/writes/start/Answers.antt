-- `plain_day::writes::start` meets its contract. Assumes nothing.
use mathlib.Core.Path.{ap₂, ◌∙◌}
use lib.IntN.{pos}
use lib.ListN.{set}
use mir.Syntax.{w64}
use mir.Val.{SFits}
use mir.Facts.{to_z-of_z}
use Rattle.plain_day.specs.Layout.{STAGE_AT, ALLOTTED_AT}
use borrow.Author.Rules.{rules}
use Rattle.plain_day.proofs.writes.start.Goals as goal

pub returns : goal.returns
returns c =
    let h : SFits w64 c.stage_number.result = search rules in
    ap₂ (λ t y. set (set t ALLOTTED_AT (pos 0)) STAGE_AT y) c.clear.ensures (to_z-of_z h ∙ c.stage_number.ensures)
