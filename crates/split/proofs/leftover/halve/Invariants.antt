-- `split::leftover::halve` is safe and ends: each turn halves what lies between `low` and `high`. Assumes nothing.
use Rattle.std.proofs.Common.{◌-◌, ◌^◌, ◌<◌}
use Rattle.split.proofs.leftover.halve.Given as goal

abbrev pub invariant-loop-low : goal.invariant-loop-low
invariant-loop-low g l = l.high < 2 ^ 64

abbrev pub decreases-loop-low : goal.decreases-loop-low
decreases-loop-low g l = l.high - l.low
