use mathlib.Core.Path.{◌≡◌}
use Prim.Native.Nat.{◌*◌, ◌≤◌}
use lib.ListN.{length}
use Rattle.proration.specs.Proration.{PARTIES}
use Rattle.splits_from_bytes.proofs.print_line.Given as goal

abbrev pub invariant-loop-share : goal.invariant-loop-share
invariant-loop-share g l = (length l.text.buffer.now ≡ 21 * PARTIES) × (l.text.len ≤ 21 * l.share-index)
