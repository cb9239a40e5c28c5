-- `report::lines::put_line` meets its contract: the word and the numbers so far are written. Assumes nothing.
use Rattle.std.proofs.Common.{sym, ap, ◌∙◌, ◌+◌, [], ◌∷◌, pos, length, rules, arith}
use mathlib.Core.List.{append-nil}
use lib.ListN.{get_or}
use mir.Facts.{to_z-of_z}
use mir.Syntax.{w64}
use mir.Val.{SFits}
use Rattle.wire.specs.Text.{decimal, written, Added}
use Rattle.day_file.specs.Text.{SPACE, spaced}
use Rattle.report.proofs.refusal.Writing.{put_first, put_more, put_as, spaced_next}
use Rattle.report.proofs.lines.put_line.Goals as goal

pub loop-number-init : goal.loop-number-init
unfolding spaced
loop-number-init c =
    let a = c.args in
    let p = c.push.ensures in (
      put_as (sym (append-nil a.word.now)) (put_first a.text.now.buffer.now a.text.now.len a.word.now p.added (omega (arith, p.added.1, c.requires))),
      omega (arith, p.added.1),
      p.same_reference,
    )

pub loop-number-preserved : goal.loop-number-preserved
loop-number-preserved c =
    let a = c.args in
    let l = c.loop-number in
    let d = c.push_decimal.ensures in
    let z = get_or a.numbers.now l.number-index (pos 0) in
    let fits : SFits w64 z = search rules in
    let e = to_z-of_z fits in
    let t = c.push-in-loop-number.new.self in
    let next = c.push_decimal.new.self in
    let space = c.push-in-loop-number.ensures in
    let added : Added t.buffer.now t.len (decimal z) next.buffer.now next.len =
    (d.added.0 ∙ ap (λ y. written t.buffer.now t.len (decimal y)) e, d.added.1 ∙ ap (λ y. t.len + length (decimal y)) e) in (
      put_as (spaced_next a.word.now a.numbers.now l.number-index c.loop-number-test.true)
          (put_more (put_more l.invariant.0 (SPACE ∷ []) space.added (omega (arith, l.invariant.1, space.added.1, c.requires, c.loop-number-test.true))) (decimal z) added
          (omega (arith, l.invariant.1, space.added.1, d.bound, c.requires, c.loop-number-test.true))),
      omega (arith, l.invariant.1, space.added.1, d.bound),
      d.same_reference ∙ space.same_reference ∙ l.invariant.2,
    )
