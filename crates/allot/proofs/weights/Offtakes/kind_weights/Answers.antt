-- `allot::weights::Offtakes::kind_weights` meets its contract: five cells are the weights of a user's kinds. Assumes nothing.
use mathlib.Core.Path.{refl}
use mathlib.Core.Bool.{true, false}
use Rattle.allot.proofs.weights.Weighing.{weights_are}
use Rattle.allot.proofs.weights.Offtakes.kind_weights.Goals as goal

pub returns-in-From2To5-clause-value : goal.returns-in-From2To5-clause-value
returns-in-From2To5-clause-value c =
    let h = c.args.self.now.in_range in
    rw c.in-From2To5.is (weights_are _ _ c.args.slot h.consumption.long h.losses.long c.requires false refl c.cell-b.ensures.value c.cell-c.ensures.value c.cell-d.ensures.value c.cell-e.ensures.value)

pub returns-in-All-clause-value : goal.returns-in-All-clause-value
returns-in-All-clause-value c =
    let h = c.args.self.now.in_range in
    rw c.in-All.is (weights_are _ _ c.args.slot h.consumption.long h.losses.long c.requires true c.cell-a.ensures.value c.cell-b.ensures.value c.cell-c.ensures.value c.cell-d.ensures.value c.cell-e.ensures.value)
