-- `line::taken_test` meets its contract, outcome by outcome, on any point-day of which this is the test. Assumes nothing.
use mathlib.Core.Path.{◌∙◌}
use native.Mathlib.Omega.{arith}
use Rattle.point_day.specs.Limits.{USERS}
use Rattle.point_day.specs.Limits.{USERS}
use Rattle.state.proofs.Numbers.{slot_within}
use Rattle.taken.proofs.Facts.{sum_fits}
use Rattle.line.proofs.Lining.{line_1, stands}
use Rattle.line.proofs.taken_test.Goals as goal

pub returns-then-state : goal.returns-then-state
returns-then-state c =
    let x = c.args in
    (λ d k. line_1 x.entry.user x.entry.kind x.entry.consumption x.entry.coefficient d k.sized k.is_taken (k.allotted ∙ c.if-state.true))

pub overflow_cast-state : goal.overflow_cast-state
overflow_cast-state c =
    let f = sum_fits c.args.state.now.sum (c.requires).1 in
    rw f.0 (tt, omega (arith, f.1))

pub slot_test-requires : goal.slot_test-requires
slot_test-requires c =
    let f = sum_fits c.args.state.now.sum c.requires.1 in
    (slot_within _ _ USERS _ _ c.requires.0 c.slot_of-slot.ensures, rw f.0 f.1)

pub returns : goal.returns
returns c = (λ d k. c.slot_test.ensures _ _ d (stands k c.if-state.false) c.slot_of-slot.ensures)
