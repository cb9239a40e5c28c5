-- `columns::keys_of` meets its contract: a buffer that is filled place by place. Assumes nothing.
use mathlib.Core.Path.{◌≡◌, sym, ap, ◌∙◌}
use native.Mathlib.Omega.{arith}
use lib.ListN.{length}
use Rattle.numbers.specs.Sums.{table}
use Rattle.numbers.proofs.Sums.{table_take}
use Rattle.numbers.proofs.Filled.{fill_none, fill_step, fill_all}
use Rattle.columns.proofs.keys_of.Goals as goal

pub loop-i-init : goal.loop-i-init
loop-i-init c = (omega arith, fill_none _ _)

pub loop-i-preserved : goal.loop-i-preserved
loop-i-preserved c = (omega arith, fill_step c.loop-i.invariant.1 (omega arith) c.from.ensures)

pub returns : goal.returns
returns c =
    let e : c.loop-i.i ≡ length c.args.keys.now = omega arith in
    fill_all c.loop-i.invariant.1 (sym e) ∙ ap (table _) e ∙ table_take 0 c.args.users.now _ c.requires
