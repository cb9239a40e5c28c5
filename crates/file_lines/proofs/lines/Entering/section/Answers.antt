-- `file_lines::lines::Entering::section` meets its contract: its user joins, then line after line is added. Assumes nothing.
use native.Mathlib.Omega.{arith}
use Rattle.std.proofs.Common.{◌+◌, subst, arith}
use Rattle.numbers.specs.Refusals.{number_of}
use Rattle.numbers.proofs.Refusals.{refusal_passed}
use Rattle.day_file.specs.Form.{section_at}
use Rattle.day_file.specs.File.{section_calls}
use Rattle.file_lines.specs.Entering.{day_of}
use Rattle.file_lines.proofs.Leading.{Stops, Leads, stopped}
use Rattle.file_lines.proofs.Steps.{few, sum_small, limited_consumption, limited_losses}
use Rattle.file_lines.proofs.SectionSteps.{no_lines, one_more_line, lines_stop, user_stops, all_lines}
use Rattle.file_lines.proofs.lines.Entering.section.Goals as goal

pub join-requires : goal.join-requires
join-requires c = (omega (arith, few c.requires.2, c.requires.1), omega (arith, c.requires.1))

pub returns-in_err-join-clause-comes_to : goal.returns-in_err-join-clause-comes_to
returns-in_err-join-clause-comes_to c =
    let a = c.args in
    let f = a.file.now.bytes.now in
    let r = c.section-section in
    let n = c.in_err-join.field-0.0 in
    let p = day_of a.self.now a.i in
    stopped (refusal_passed _ n c.from_residual.ensures.1) (section_calls f (section_at f a.i)) p (day_of c.join.new.self (a.i + 1))
    (subst (λ s. Stops (number_of n) (section_calls f s) p) r.ensures.value
    (user_stops f r.result a.i a.self.now c.requires.2 c.requires.1 c.read-user.ensures.0 c.read-user.ensures.1 n c.in_err-join.ensures.value))

pub loop-j-init : goal.loop-j-init
loop-j-init c =
    let a = c.args in
    no_lines a.file.now.bytes.now c.section-section.result a.i a.self.now c.requires.2 c.requires.1 c.read-user.ensures.0 c.read-user.ensures.1 c.in_ok-join.ensures.value c.in_ok-join.ensures.after

pub line-requires : goal.line-requires
line-requires c =
    let l = c.loop-j.invariant in
    (omega (arith, l.room), sum_small l.holds, limited_consumption l.holds, limited_losses l.holds)

pub returns-in_err-offtake-clause-comes_to : goal.returns-in_err-offtake-clause-comes_to
returns-in_err-offtake-clause-comes_to c =
    let a = c.args in
    let f = a.file.now.bytes.now in
    let r = c.section-section in
    let n = c.in_err-offtake.field-0.0 in
    let p = day_of a.self.now a.i in
    stopped (refusal_passed _ n c.from_residual-in_err-offtake.ensures.1) (section_calls f (section_at f a.i)) p (day_of c.line.new.self (a.i + 1))
    (subst (λ s. Stops (number_of n) (section_calls f s) p) r.ensures.value
    (lines_stop f r.result a.i a.self.now c.loop-j.invariant c.read-user.ensures.0 c.read_line-entry.ensures n c.in_err-offtake.ensures.value (omega (arith, c.loop-j-test.true, c.lines-lines.ensures))))

pub loop-j-preserved : goal.loop-j-preserved
loop-j-preserved c =
    let a = c.args in
    one_more_line a.file.now.bytes.now c.section-section.result a.i a.self.now c.loop-j.invariant c.read-user.ensures.0 c.read_line-entry.ensures c.in_ok-offtake.ensures.value c.in_ok-offtake.ensures.sum c.in_ok-offtake.ensures.after

pub returns : goal.returns
returns c =
    let a = c.args in
    let f = a.file.now.bytes.now in
    let r = c.section-section in
    let l = c.loop-j in
    record {
      unless_refused = l.invariant.holds;
      comes_to = subst (λ s. Leads (section_calls f s) (day_of a.self.now a.i) (day_of l.self (a.i + 1))) r.ensures.value
          (all_lines f r.result a.i a.self.now l.invariant (omega (arith, c.loop-j-test.false, l.auto, c.lines-lines.ensures)));
    }
