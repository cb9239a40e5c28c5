-- `plain_day::head_readable` meets its contract. Assumes nothing.
use mathlib.Core.Path.{◌≡◌, ◌∙◌}
use mir.Syntax.{w64}
use mir.Val.{SFits}
use mir.Facts.{to_z-of_z}
use borrow.Author.Rules.{rules}
use Rattle.numbers.specs.Sums.{atZ}
use Rattle.numbers.specs.Lists.{both}
use Rattle.plain_day.specs.Layout.{up_to, emissions_readable, head_readable}
use Rattle.plain_day.proofs.Lists.{both_both}
use Rattle.plain_day.proofs.head_readable.Goals as goal
use Rattle.plain_day.proofs.head_readable.Goals.{then-up_to, else-up_to, then-up_to-2, else-up_to-2, then-up_to-3, else-up_to-3}

pub returns-then-emissions_readable : goal.returns-then-emissions_readable
unfolding head_readable
returns-then-emissions_readable c =
    let xs = c.args.xs.now in
    let f0 : SFits w64 (atZ xs 0) = search rules in
    let f1 : SFits w64 (atZ xs 1) = search rules in
    let f2 : SFits w64 (atZ xs 2) = search rules in
    let f3 : SFits w64 (atZ xs 3) = search rules in
    let f4 : SFits w64 (atZ xs 4) = search rules in
    let f5 : SFits w64 (atZ xs 5) = search rules in
    let s = rw (to_z-of_z f0) at c.up_to.ensures in
    let v1 : c.if-up_to.value ≡ both c.up_to.result (up_to 1 (atZ xs 1)) =
    elim c.if-up_to.branch [ then-up_to w ↦ rw w.if-up_to.true (w.value-is ∙ rw (to_z-of_z f1) at w.up_to-then-up_to.ensures) | else-up_to w ↦ rw w.if-up_to.false (w.value-is ∙ w.if-up_to.false) ] in
    let v2 : c.if-up_to-2.value ≡ both c.if-up_to.value (up_to 1 (atZ xs 2)) =
    elim c.if-up_to-2.branch [ then-up_to-2 w ↦ rw w.if-up_to-2.true (w.value-is ∙ rw (to_z-of_z f2) at w.up_to-then-up_to-2.ensures) | else-up_to-2 w ↦ rw w.if-up_to-2.false (w.value-is ∙ w.if-up_to-2.false) ] in
    let v3 : c.if-up_to-3.value ≡ both c.if-up_to-2.value (emissions_readable (atZ xs 3) (atZ xs 4)) =
    elim c.if-up_to-3.branch [ then-up_to-3 w ↦ rw w.if-up_to-3.true (w.value-is ∙ rw (to_z-of_z f3, to_z-of_z f4) at w.emissions_readable.ensures) | else-up_to-3 w ↦ rw w.if-up_to-3.false (w.value-is ∙ w.if-up_to-3.false) ] in
    rw (← s, both_both, ← v1, both_both, ← v2, both_both, ← v3, c.if-emissions_readable.true) (rw (to_z-of_z f5) at c.up_to-then-emissions_readable.ensures)

pub returns-else-emissions_readable : goal.returns-else-emissions_readable
unfolding head_readable
returns-else-emissions_readable c =
    let xs = c.args.xs.now in
    let f0 : SFits w64 (atZ xs 0) = search rules in
    let s = rw (to_z-of_z f0) at c.up_to.ensures in
    let v1 : c.if-up_to.value ≡ both c.up_to.result (up_to 1 (atZ xs 1)) =
    elim c.if-up_to.branch [ then-up_to w ↦ let f1 : SFits w64 (atZ xs 1) = search rules in rw w.if-up_to.true (w.value-is ∙ rw (to_z-of_z f1) at w.up_to-then-up_to.ensures) | else-up_to w ↦ rw w.if-up_to.false (w.value-is ∙ w.if-up_to.false) ] in
    let v2 : c.if-up_to-2.value ≡ both c.if-up_to.value (up_to 1 (atZ xs 2)) =
    elim c.if-up_to-2.branch [ then-up_to-2 w ↦ let f2 : SFits w64 (atZ xs 2) = search rules in rw w.if-up_to-2.true (w.value-is ∙ rw (to_z-of_z f2) at w.up_to-then-up_to-2.ensures) | else-up_to-2 w ↦ rw w.if-up_to-2.false (w.value-is ∙ w.if-up_to-2.false) ] in
    let v3 : c.if-up_to-3.value ≡ both c.if-up_to-2.value (emissions_readable (atZ xs 3) (atZ xs 4)) =
    elim c.if-up_to-3.branch [ then-up_to-3 w ↦ let f3 : SFits w64 (atZ xs 3) = search rules in let f4 : SFits w64 (atZ xs 4) = search rules in rw w.if-up_to-3.true (w.value-is ∙ rw (to_z-of_z f3, to_z-of_z f4) at w.emissions_readable.ensures) | else-up_to-3 w ↦ rw w.if-up_to-3.false (w.value-is ∙ w.if-up_to-3.false) ] in
    rw (← s, both_both, ← v1, both_both, ← v2, both_both, ← v3, c.if-emissions_readable.false)
