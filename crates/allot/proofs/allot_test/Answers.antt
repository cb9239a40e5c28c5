-- `allot::allot_test` meets its contract: a point-day that is not taken is refused by 2, any other by the tests on it, whose lists are as long
-- as its arrays. Assumes nothing.
use mathlib.Core.Path.{◌≡◌, refl, sym, subst, ◌∙◌}
use Rattle.point_day.proofs.Called.{called_untaken}
use Rattle.taken.specs.Tested.{StateOf}
use Rattle.taken.proofs.Facts.{finds_untaken}
use Rattle.allot.proofs.Outcomes.{fails}
use Rattle.allot.proofs.allot_test.Goals as goal

pub returns-in-Ok : goal.returns-in-Ok
returns-in-Ok c =
    let cs : c.unwrap.result.now ≡ c.args.consumption.now = (rw c.unwrap.ensures at c.as_array.ensures.cases).same in
    let ls : c.unwrap-in-Ok.result.now ≡ c.args.losses.now = (rw c.unwrap-in-Ok.ensures at c.as_array-in-Ok.ensures.cases).same in
    let rs : c.unwrap-in-Ok-2.result.now ≡ c.args.revision.now = (rw c.unwrap-in-Ok-2.ensures at c.as_array-in-Ok-2.ensures.cases).same in
    record {
      none = rw c.in-Ok.is tt;
      of = λ d k x y z. c.taken_test.ensures d (subst (λ t. StateOf d t) c.in-Ok.is k) (x ∙ sym cs) (y ∙ sym ls) (z ∙ sym rs);
    }

pub returns-in-Err : goal.returns-in-Err
returns-in-Err c = finds_untaken c.in-Err.is refl (λ d e x y z. fails _ d 1 (called_untaken _ d e))
