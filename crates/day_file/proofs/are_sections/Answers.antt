-- `day_file::are_sections` meets its contract: what the sections passed and those ahead tell is the same. Assumes nothing.
use Rattle.std.proofs.Common.{ap, sym, ◌∙◌, arith}
use Rattle.day_file.specs.declared.Section.{Section}
use Rattle.day_file.proofs.Sections.{tells, none_left, from_pairs, too_early, not_whole, outside, goes_on}
use Rattle.day_file.proofs.are_sections.Goals as goal
use Rattle.day_file.proofs.are_sections.Goals.{then-section-end-via-then-section-end as early, then-section-end-via-else-section-end+then-not-is_whole as partial}

pub returns-then-section-end : goal.returns-then-section-end
returns-then-section-end c =
    let r = c.section_at-section in
    let f = c.args.file.now in
    let l = c.loop-i in
    let at = from_pairs f c.args.pairs l.i r.ensures.0 c.requires.0 in
    let o = ap (λ (t : Section). t.offset) at in
    let z = ap (λ (t : Section). t.size) at in
    elim c.then-section-end.branch [
      | early w ↦ tells f l.end l.i l.invariant (too_early f l.end l.i r.result.offset r.result.size (omega (arith, c.requires.1)) o z w.if-section-end.true)
      | partial w ↦ tells f l.end l.i l.invariant (not_whole f l.end l.i r.result.offset r.result.size (omega (arith, c.requires.1)) o z (sym w.if-not-is_whole.ensures))
    ]

pub returns-then-file-end : goal.returns-then-file-end
returns-then-file-end c =
    let r = c.section_at-section in
    let f = c.args.file.now in
    let l = c.loop-i in
    let at = from_pairs f c.args.pairs l.i r.ensures.0 c.requires.0 in
    let o = ap (λ (t : Section). t.offset) at in
    let z = ap (λ (t : Section). t.size) at in
    tells f l.end l.i l.invariant (outside f l.end l.i r.result.offset r.result.size (omega (arith, c.requires.1)) o z c.if-file-end.true)

pub loop-i-preserved : goal.loop-i-preserved
loop-i-preserved c =
    let r = c.section_at-section in
    let f = c.args.file.now in
    let l = c.loop-i in
    let at = from_pairs f c.args.pairs l.i r.ensures.0 c.requires.0 in
    let o = ap (λ (t : Section). t.offset) at in
    let z = ap (λ (t : Section). t.size) at in
    l.invariant ∙ goes_on f l.end l.i r.result.offset r.result.size (omega (arith, c.requires.1)) o z (omega (arith, c.if-section-end.false)) (sym c.if-not-is_whole.ensures) c.if-file-end.false

pub returns : goal.returns
returns c =
    let l = c.loop-i in
    tells c.args.file.now l.end l.i l.invariant (none_left c.args.file.now l.end l.i (omega (arith, c.requires.1, l.auto)))
