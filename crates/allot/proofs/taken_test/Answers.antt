-- `allot::taken_test` meets its contract, outcome by outcome, on any point-day that has these parts. Assumes nothing.
use mathlib.Core.Path.{sym, ap, ◌∙◌}
use Rattle.point_day.specs.Day.{is_measured}
use Rattle.allot.proofs.Outcomes.{allot_1, allot_7, allot_8, fails}
use Rattle.allot.proofs.taken_test.Goals as goal

pub returns-then-state : goal.returns-then-state
returns-then-state c d k x y z = fails _ d 0 (allot_1 d k.sized k.is_taken (k.allotted ∙ c.if-state.true))

pub returns-then-not-is_measured : goal.returns-then-not-is_measured
returns-then-not-is_measured c d k x y z =
    fails _ d 6 (allot_7 d k.sized k.is_taken (k.allotted ∙ c.if-state.false) (ap is_measured k.measurement ∙ sym c.if-not-is_measured.ensures))

pub returns-then-state-eq0 : goal.returns-then-state-eq0
returns-then-state-eq0 c d k x y z =
    fails _ d 7 (allot_8 d k.sized k.is_taken (k.allotted ∙ c.if-state.false) (ap is_measured k.measurement ∙ sym c.if-not-is_measured.ensures) (k.count ∙ c.if-state-eq0.true))
