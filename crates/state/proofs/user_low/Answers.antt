-- `state::user_low` meets its contract: the bits of the kinds passed so far are gathered. Assumes nothing.
use Prim.Native.Nat.{◌+◌, ◌*◌}
use native.Mathlib.Omega.{arith}
use borrow.Author.Rules.{rules}
use mir.Syntax.{w64}
use lib.Bits.{bit_or}
use mir.Val.{SFits, Fits, of_z}
use mir.Facts.{of_z-to_z, Fits-of_z, Fits-or}
use Rattle.numbers.specs.Sums.{atZ}
use Rattle.state.proofs.Lows.{gather_kind}
use Rattle.state.proofs.user_low.Goals as goal

pub loop-k-preserved : goal.loop-k-preserved
loop-k-preserved c =
    let a = c.args in
    let k = c.loop-k.k in
    let f : SFits w64 (atZ a.consumption.now (5 * a.slot + k)) = search rules in
    let g : SFits w64 (atZ a.losses.now (5 * a.slot + k)) = search rules in
    let b = c.loop-k.bits-bits in
    let before : Fits w64 b = search rules in
    let after : Fits w64 (bit_or (bit_or b (of_z w64 (atZ a.consumption.now (5 * a.slot + k)))) (of_z w64 (atZ a.losses.now (5 * a.slot + k)))) = Fits-or (Fits-or before (Fits-of_z f)) (Fits-of_z g) in
    (omega arith, rw (of_z-to_z after) (gather_kind a.consumption.now a.losses.now a.slot k b f g (rw (of_z-to_z before) at c.loop-k.invariant.1)))
