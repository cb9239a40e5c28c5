-- `day_report::write_report` meets its contract, test by test. Assumes nothing.
use Rattle.std.proofs.Common.{sym, ap, ◌∙◌, arith}
use Rattle.numbers.specs.declared.Refusal.TheVariants.{OutOfRange}
use Rattle.numbers.proofs.Refusals.{refused_not_0}
use Rattle.day_file.specs.declared.Header.{Header}
use Rattle.day_file.specs.Report.{report}
use Rattle.day_report.proofs.allotment.Allotting.{reported, refusing, passing}
use Rattle.day_report.proofs.Running.{not_decoded, late_day, unmeasured, measured}
use Rattle.day_report.proofs.write_report.Goals as goal

pub returns-in_err-file : goal.returns-in_err-file
returns-in_err-file c =
    let e = c.in_err-file.field-0.0 in
    let both = passing c.args.out.now _ e c.from_residual.ensures.1 (not_decoded c.args.file.now c.in_err-file.ensures.status (refused_not_0 e)) in
    record { result_value = both.0; out_after = both.1 }

pub returns-then-header : goal.returns-then-header
returns-then-header c =
    let d = c.in_ok-file.file in
    let day = ap (λ (h : Header). h.day) d.read in
    let both = refusing c.args.out.now OutOfRange (late_day d.bytes.now d.right (omega (arith, day, c.if-header.true)) ∙ ap report c.in_ok-file.ensures.bytes) in
    record { result_value = both.0; out_after = both.1 }

pub returns-then-not-emission_right : goal.returns-then-not-emission_right
returns-then-not-emission_right c =
    let d = c.in_ok-file.file in
    let day = ap (λ (h : Header). h.day) d.read in
    let emission = ap (λ (h : Header). h.emission) d.read in
    let downstream = ap (λ (h : Header). h.downstream) d.read in
    let both = refusing c.args.out.now OutOfRange
    (unmeasured d.bytes.now d.right day emission downstream (omega (arith, c.if-header.false)) (sym c.if-not-emission_right.ensures) ∙ ap report c.in_ok-file.ensures.bytes) in
    record { result_value = both.0; out_after = both.1 }

pub enter-requires : goal.enter-requires
enter-requires c = (omega (arith, c.if-header.false), sym c.if-not-emission_right.ensures)

pub returns : goal.returns
returns c =
    let d = c.in_ok-file.file in
    let day = ap (λ (h : Header). h.day) d.read in
    let emission = ap (λ (h : Header). h.emission) d.read in
    let downstream = ap (λ (h : Header). h.downstream) d.read in
    let both = reported c.args.out.now
    (measured d.bytes.now d.right day emission downstream (omega (arith, c.if-header.false)) (sym c.if-not-emission_right.ensures) ∙ ap report c.in_ok-file.ensures.bytes)
    c.enter.result (c.enter.ensures.result_value, c.enter.ensures.out_after) in
    record { result_value = both.0; out_after = both.1 }
