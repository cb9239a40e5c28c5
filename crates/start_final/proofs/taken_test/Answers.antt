-- `start_final::taken_test` meets its contract, outcome by outcome, on any point-day of which this is the test. Assumes nothing.
use mathlib.Core.Path.{refl, sym, ◌∙◌}
use Rattle.start_final.proofs.Restarts.{start_1, start_done, fails, passes}
use Rattle.start_final.proofs.taken_test.Goals as goal

pub returns-then-cannot_start : goal.returns-then-cannot_start
returns-then-cannot_start c =
    (λ d k. fails d 0 (start_1 d k.sized k.is_taken (rw (k.allotted, k.stage) (sym c.cannot_start.ensures ∙ c.if-cannot_start.true))))

pub returns : goal.returns
returns c =
    (λ d k. passes d record { is = start_done d k.sized k.is_taken (rw (k.allotted, k.stage) (sym c.cannot_start.ensures ∙ c.if-cannot_start.false)) refl; taken = k.is_taken })
