-- `allot::shares::share_by` meets its contract. Assumes nothing.
use mathlib.Core.Path.{sym, ap, ◌∙◌}
use lib.ListN.{length}
use Rattle.numbers.specs.Sums.{total}
use Rattle.numbers.proofs.Amounts.{back}
use Rattle.allot.proofs.weights.Counting.{weights_right}
use native.Mathlib.Omega.{arith}
use Rattle.allot.proofs.shares.share_by.Goals as goal

pub invariant_of-weights : goal.invariant_of-weights
invariant_of-weights c =
    let g = c.weigh-basis.ensures in
    let w = weights_right _ _ c.args.offtakes.now.in_range _ (length c.args.ws.now) c.requires.ws_nonzero.1 g.ws_after in
    record { summed = g.total ∙ sym (ap total g.ws_after); bounded = w.2 }

pub prorate_signed-requires-clause-within : goal.prorate_signed-requires-clause-within
prorate_signed-requires-clause-within c =
    let w = weights_right _ _ c.args.offtakes.now.in_range _ (length c.args.ws.now) c.requires.ws_nonzero.1 c.weigh-basis.ensures.ws_after in
    (rw (back c.requires.within.0 (omega arith)) c.requires.within.0, omega (arith, w.0, c.requires.ws_nonzero.0), w.1)
