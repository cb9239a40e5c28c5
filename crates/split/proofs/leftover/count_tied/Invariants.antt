-- `split::leftover::count_tied` meets its contract, and ends. Assumes nothing.
use Rattle.std.proofs.Common.{◌≤◌}
use Rattle.split.proofs.leftover.count_tied.Given as goal

abbrev pub invariant-loop-j : goal.invariant-loop-j
invariant-loop-j l = l.count ≤ l.j
