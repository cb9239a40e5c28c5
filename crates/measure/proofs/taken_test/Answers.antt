-- `measure::taken_test` meets its contract, outcome by outcome, on any point-day of which this is the test. Assumes nothing.
use mathlib.Core.Path.{◌≡◌, refl, sym, ◌∙◌}
use mathlib.Core.Bool.{false, not}
use Rattle.numbers.specs.Lists.{both}
use Rattle.point_day.specs.Day.{provisional}
use Rattle.measure.proofs.Measures.{measure_1, measure_2, measure_done, fails, passes}
use Rattle.measure.proofs.taken_test.Goals as goal

pub returns-then-measured_for_good : goal.returns-then-measured_for_good
returns-then-measured_for_good c =
    (λ d k. fails _ _ d 0 (measure_1 _ _ d k.sized k.is_taken (rw (k.allotted, k.stage) (sym c.measured_for_good.ensures ∙ c.if-measured_for_good.true))))

pub returns-then-not-emission_right : goal.returns-then-not-emission_right
returns-then-not-emission_right c =
    (λ d k.
    let o : both d.allotted (not (provisional d.stage)) ≡ false = rw (k.allotted, k.stage) (sym c.measured_for_good.ensures ∙ c.if-measured_for_good.false) in
    fails _ _ d 1 (measure_2 _ _ d k.sized k.is_taken o (sym c.if-not-emission_right.ensures)))

pub returns : goal.returns
returns c =
    (λ d k.
    let o : both d.allotted (not (provisional d.stage)) ≡ false = rw (k.allotted, k.stage) (sym c.measured_for_good.ensures ∙ c.if-measured_for_good.false) in
    let r = sym c.if-not-emission_right.ensures in
    passes _ _ d record { is = measure_done _ _ d k.sized k.is_taken o r refl; taken = k.is_taken; right = r })
