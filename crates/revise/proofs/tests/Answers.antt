-- `revise::tests` meets its contract: a point-day that is not taken is refused by 2, any other by the tests of a revise. Assumes nothing.
use Rattle.numbers.proofs.Refusals.{refusal_passed}
use Rattle.point_day.proofs.Called.{called_untaken}
use Rattle.revise.proofs.tests.Goals as goal

pub returns-in_err-state : goal.returns-in_err-state
returns-in_err-state c =
    let u = c.in_err-state.ensures in
    rw (refusal_passed _ _ c.from_residual.ensures.1, u.1) (called_untaken _ _ u.0)
