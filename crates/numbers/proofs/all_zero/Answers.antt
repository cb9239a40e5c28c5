-- `numbers::all_zero` meets its contract: the bits of every amount passed so far are gathered. Assumes nothing.
use Prim.Native.Nat.{◌<◌}
use native.Mathlib.Omega.{arith}
use borrow.Author.Rules.{rules}
use lib.ListN.{length}
use mir.Syntax.{w64}
use mir.Val.{SFits, Fits, of_z}
use mir.Facts.{of_z-to_z, Fits-of_z, Fits-or}
use lib.Bits.{bit_or}
use Rattle.numbers.specs.Sums.{atZ}
use Rattle.numbers.proofs.Lists.{passed}
use Rattle.numbers.proofs.Bits.{gather_zero}
use Rattle.numbers.proofs.all_zero.Goals as goal

pub loop-i-preserved : goal.loop-i-preserved
loop-i-preserved c =
    let i = c.loop-i.i in
    let xs = c.args.xs.now in
    let h : SFits w64 (atZ xs i) = search rules in
    let before : Fits w64 c.loop-i.bits-bits = search rules in
    let after : Fits w64 (bit_or c.loop-i.bits-bits (of_z w64 (atZ xs i))) = Fits-or before (Fits-of_z h) in
    let b = c.loop-i.invariant in (
      omega arith,
      passed (λ k. k < length xs) c.args.from i b.1 (omega arith),
      rw (of_z-to_z after) (gather_zero xs c.args.from i c.loop-i.bits-bits b.0 h (rw (of_z-to_z before) at b.2)),
    )
