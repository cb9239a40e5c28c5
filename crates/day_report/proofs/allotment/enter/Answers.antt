-- `day_report::allotment::enter` meets its contract. Assumes nothing.
use Rattle.std.proofs.Common.{refl}
use Rattle.point_day.specs.Day.{metered}
use Rattle.day_report.proofs.allotment.Allotting.{reported, passing, nothing_holds, sections_refuse, sections_lead}
use Rattle.day_report.proofs.allotment.enter.Goals as goal

pub sections-requires : goal.sections-requires
sections-requires c = (refl, nothing_holds c.new-entered.ensures)

pub returns-in_err-sections : goal.returns-in_err-sections
returns-in_err-sections c =
    let a = c.args in
    let h = a.file.now.header in
    let e = c.in_err-sections.field-0.0 in
    let both = passing a.out.now _ e c.from_residual.ensures.1
    (sections_refuse a.file.now.bytes.now c.new-entered.ensures h.sections c.sections.new.self (metered h.emission h.downstream) c.requires.1 e c.in_err-sections.ensures.comes_to h.day) in
    record { result_value = both.0; out_after = both.1 }

pub allot-requires : goal.allot-requires
allot-requires c = (c.requires.0, c.requires.1, c.in_ok-sections.ensures.unless_refused)

pub returns : goal.returns
returns c =
    let a = c.args in
    let h = a.file.now.header in
    let both = reported a.out.now
    (sections_lead a.file.now.bytes.now c.new-entered.ensures h.sections c.sections.new.self (metered h.emission h.downstream) c.requires.1 c.in_ok-sections.ensures.comes_to h.day)
    c.allot.result (c.allot.ensures.result_value, c.allot.ensures.out_after) in
    record { result_value = both.0; out_after = both.1 }
