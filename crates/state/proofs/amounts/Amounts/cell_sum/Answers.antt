-- `state::amounts::Amounts::cell_sum` meets its contract: no sum leaves 64 bits. Assumes nothing.
use Rattle.state.proofs.Ranges.{three_is, three_fits}
use Rattle.state.proofs.amounts.Amounts.cell_sum.Goals as goal

pub overflow_add-result-2 : goal.overflow_add-result-2
overflow_add-result-2 c = three_fits _ _ (c.requires.1 c.args.i) (c.requires.2 c.args.i) _ (c.requires.3 c.args.i)

pub returns : goal.returns
returns c = three_is _ _ (c.requires.1 c.args.i) (c.requires.2 c.args.i) _ (c.requires.3 c.args.i)
