-- `file_lines::lines::Entering::sections` meets its contract, section by section. Assumes nothing.
use Rattle.std.proofs.Common.{◌≡◌, map, ap, subst, arith}
use Rattle.numbers.specs.Lists.{flat}
use Rattle.numbers.proofs.Refusals.{refusal_passed}
use Rattle.day_file.specs.declared.Header.{Header}
use Rattle.day_file.specs.Form.{sections}
use Rattle.day_file.specs.File.{section_calls}
use Rattle.file_lines.specs.Entering.{day_of}
use Rattle.file_lines.proofs.Leading.{stopped}
use Rattle.file_lines.proofs.SectionSteps.{Sections, no_sections, all_sections, one_more_section, sections_stop}
use Rattle.file_lines.proofs.lines.Entering.sections.Goals as goal

pub loop-i-init : goal.loop-i-init
loop-i-init c = no_sections c.args.file.now.bytes.now c.args.self.now c.requires.1

pub returns-in_err-section-clause-comes_to : goal.returns-in_err-section-clause-comes_to
returns-in_err-section-clause-comes_to c =
    let a = c.args in
    let d = a.file.now in
    let count = ap (λ (h : Header). h.sections) d.read in
    stopped (refusal_passed _ c.in_err-section.field-0.0 c.from_residual.ensures.1) (flat (map (section_calls d.bytes.now) (sections d.bytes.now))) (day_of a.self.now 0) (day_of c.section.new.self d.header.sections)
    (sections_stop d.bytes.now a.self.now c.loop-i.invariant c.in_err-section.ensures.comes_to (omega (arith, c.loop-i-test.true, count)))

pub loop-i-preserved : goal.loop-i-preserved
loop-i-preserved c =
    let e = c.in_ok-section.ensures in
    one_more_section c.args.file.now.bytes.now c.args.self.now c.loop-i.invariant e.unless_refused e.comes_to

pub returns : goal.returns
returns c =
    let a = c.args in
    let l = c.loop-i in
    let d = a.file.now in
    let all : l.i ≡ d.header.sections = omega (arith, c.loop-i-test.false, l.auto) in
    let h = subst (λ n. Sections d.bytes.now a.self.now l.self n) all l.invariant in
    record { unless_refused = h.holds; comes_to = all_sections d.bytes.now a.self.now h (ap (λ (h : Header). h.sections) d.read) }
