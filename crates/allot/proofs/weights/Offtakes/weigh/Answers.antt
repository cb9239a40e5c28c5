-- `allot::weights::Offtakes::weigh` meets its contract: the basis is decided over all users at once. Assumes nothing.
use mathlib.Core.Bool.{true, false}
use Rattle.allot.proofs.weights.Counting.{weights_right}
use native.Mathlib.Omega.{arith}
use Rattle.allot.proofs.weights.Offtakes.weigh.Goals as goal

pub weight_total-total-requires : goal.weight_total-total-requires
weight_total-total-requires c =
    let w = weights_right _ _ c.args.self.now.in_range false _ c.requires c.weights.ensures in
    (w.1, w.2)

pub weight_total-requires : goal.weight_total-requires
weight_total-requires c =
    let h = c.args.self.now.in_range in
    let long = (weights_right _ _ h false _ c.requires c.weights.ensures).0 in
    let w = weights_right _ _ h true _ (omega (arith, long, c.requires)) c.weights-2.ensures in
    (w.1, w.2)
