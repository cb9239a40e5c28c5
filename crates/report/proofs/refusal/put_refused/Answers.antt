-- `report::refusal::put_refused` meets its contract. Assumes nothing.
use Rattle.std.proofs.Common.{ap, ap₂, ◌∙◌, [], ◌∷◌, ◌<◌, length, rules, arith}
use Rattle.numbers.proofs.Amounts.{within_pos}
use Rattle.wire.specs.Text.{written}
use Rattle.day_file.specs.Report.{refused}
use Rattle.day_file.specs.Text.{refused_word, text, text_line}
use Rattle.report.proofs.lines.Sizes.{wrapped}
use Rattle.report.proofs.refusal.put_refused.Goals as goal

pub returns : goal.returns
unfolding text
returns c =
    let n = c.args.number in
    let low : n < 256 = search rules in
    let z = wrapped c.from.ensures (within_pos n) (omega (arith, low)) in
    let l = ap (λ x. text_line refused_word (x ∷ [])) z in
    let new = c.new-text.result in
    let empty = c.new-text.ensures.empty in
    let p = c.put_line.ensures in
    let e = p.added.0 ∙ ap (λ t. written new.buffer.now new.len t) l ∙ ap₂ (λ b i. written b i (text (refused n))) empty.1 empty.0 in
    record { value = omega (arith, p.added.1, empty.0, ap length l); out_after = search (rules, e) }
