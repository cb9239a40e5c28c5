-- `day_file::decode` meets its contract, test by test. Assumes nothing.
use Rattle.std.proofs.Common.{ap, sym, ◌∙◌}
use Rattle.numbers.specs.Sums.{pick}
use Rattle.day_file.proofs.Mark.{marked}
use Rattle.day_file.proofs.WellFormed.{too_long, too_short, unmarked, pairs_cut, by_sections}
use Rattle.day_file.proofs.decode.Goals as goal
use Rattle.day_file.proofs.decode.Goals.{then-file-gt-MOST_BYTES-via-then-file-gt-MOST_BYTES as long, then-file-gt-MOST_BYTES-via-else-file-gt-MOST_BYTES+then-file-lt-HEADER as short, then-file-gt-MOST_BYTES-via-else-file-gt-MOST_BYTES+else-file-lt-HEADER+then-not-starts_with as other, then-file-header-via-then-file-header as cut, then-file-header-via-else-file-header+then-not-are_sections as apart}

pub returns-then-file-gt-MOST_BYTES-clause-status : goal.returns-then-file-gt-MOST_BYTES-clause-status
returns-then-file-gt-MOST_BYTES-clause-status c =
    let f = c.args.file.now in
    elim c.then-file-gt-MOST_BYTES.branch [
      | long w ↦ ap (λ b. pick b 0 13) (too_long f w.if-file-gt-MOST_BYTES.true)
      | short w ↦ ap (λ b. pick b 0 13) (too_short f w.if-file-gt-MOST_BYTES.false w.if-file-lt-HEADER.true)
      | other w ↦ ap (λ b. pick b 0 13) (unmarked f w.if-file-gt-MOST_BYTES.false w.if-file-lt-HEADER.false (sym (w.if-not-starts_with.ensures.value ∙ marked f w.if-file-lt-HEADER.false)))
    ]

pub returns-then-file-header-clause-status : goal.returns-then-file-header-clause-status
returns-then-file-header-clause-status c =
    let f = c.args.file.now in
    let h = c.read_header-header.ensures.0 in
    let mark = sym (c.if-not-starts_with.ensures.value ∙ marked f c.if-file-lt-HEADER.false) in
    elim c.then-file-header.branch [
      | cut w ↦ ap (λ b. pick b 0 13) (pairs_cut f c.if-file-gt-MOST_BYTES.false c.if-file-lt-HEADER.false mark h w.if-file-header.true)
      | apart w ↦ ap (λ b. pick b 0 13) (w.if-not-are_sections.ensures ∙ by_sections f c.if-file-gt-MOST_BYTES.false c.if-file-lt-HEADER.false mark h w.if-file-header.false)
    ]

pub invariant_of-result : goal.invariant_of-result
invariant_of-result c =
    let f = c.args.file.now in
    let h = c.read_header-header.ensures.0 in
    let mark = sym (c.if-not-starts_with.ensures.value ∙ marked f c.if-file-lt-HEADER.false) in
    record {
      right = sym (c.if-not-are_sections.ensures ∙ by_sections f c.if-file-gt-MOST_BYTES.false c.if-file-lt-HEADER.false mark h c.if-file-header.false);
      read = h;
    }

pub returns-clause-status : goal.returns-clause-status
returns-clause-status c =
    let f = c.args.file.now in
    let h = c.read_header-header.ensures.0 in
    let mark = sym (c.if-not-starts_with.ensures.value ∙ marked f c.if-file-lt-HEADER.false) in
    ap (λ b. pick b 0 13) (c.if-not-are_sections.ensures ∙ by_sections f c.if-file-gt-MOST_BYTES.false c.if-file-lt-HEADER.false mark h c.if-file-header.false)
