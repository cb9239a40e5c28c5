-- `split::leftover::count_above` meets its contract, and ends. Assumes nothing.
use Rattle.std.proofs.Common.{◌≤◌, length}
use Rattle.split.proofs.leftover.count_above.Given as goal

abbrev pub invariant-loop-r : goal.invariant-loop-r
invariant-loop-r l = (l.r-index ≤ length l.rems) × (l.count ≤ l.r-index)
