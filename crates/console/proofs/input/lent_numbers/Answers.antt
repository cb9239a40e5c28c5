-- `console::input::lent_numbers`: the next number is −1 − i. Assumes nothing.
use native.Mathlib.Omega.{arith}
use Rattle.std.proofs.lemmas.Int.{ints}
use Rattle.numbers.proofs.Filled.{fill_step}
use Rattle.console.proofs.input.lent_numbers.Goals as goal

pub loop-i-preserved : goal.loop-i-preserved
loop-i-preserved c = fill_step c.loop-i.invariant (omega arith) (omega (arith, ints))
