-- `spread::write_days` meets its contract. Assumes nothing.
use mathlib.Core.Path.{◌≡◌, ap, ◌∙◌}
use Rattle.numbers.specs.Sums.{table}
use Prim.Native.Nat.{suc}
use native.Mathlib.Numerals.{add-one}
use lib.ListN.{length}
use Rattle.numbers.proofs.Filled.{fill_none, fill_step, fill_all}
use native.Mathlib.Omega.{arith}
use Rattle.spread.proofs.write_days.Goals as goal

pub loop-i-init : goal.loop-i-init
loop-i-init c = (omega arith, fill_none _ _)

pub loop-i-preserved : goal.loop-i-preserved
loop-i-preserved c = (omega arith, fill_step c.loop-i.invariant.1 (omega arith) (add-one c.loop-i.i))

pub returns : goal.returns
returns c =
    let e : c.loop-i.i ≡ length c.args.keys.now = omega arith in
    fill_all c.loop-i.invariant.1 (omega arith) ∙ ap (table suc) e
