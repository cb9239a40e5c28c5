-- `day_file::DayFile::section` meets its contract: sections of a day file lie inside it. Assumes nothing.
use Rattle.std.proofs.Common.{ap, ◌≤◌, length, subst, sym, arith}
use Rattle.day_file.specs.declared.Header.{Header}
use Rattle.day_file.specs.declared.Section.{Section}
use Rattle.day_file.specs.Form.{USER, end_of}
use Rattle.day_file.proofs.Sections.{from_pairs}
use Rattle.day_file.proofs.WellFormed.{section_inside}
use Rattle.day_file.proofs.DayFile.section.Goals as goal

pub section_at-requires : goal.section_at-requires
section_at-requires c =
    let d = c.args.self.now in
    omega (arith, (section_inside d.bytes.now d.right c.args.i c.requires).pairs, ap (λ (h : Header). h.pairs) d.read, c.requires)

pub returns-clause-inside : goal.returns-clause-inside
returns-clause-inside c =
    let d = c.args.self.now in
    let f = d.bytes.now in
    let h = section_inside f d.right c.args.i c.requires in
    subst (λ (s : Section). (USER ≤ s.size) × (end_of s ≤ length f))
    (sym (from_pairs f d.header.pairs c.args.i c.section_at.ensures.0 (ap (λ (h : Header). h.pairs) d.read))) (h.user, h.section)
