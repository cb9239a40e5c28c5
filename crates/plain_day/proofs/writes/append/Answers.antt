-- `plain_day::writes::append` meets its contract. Assumes nothing.
use Prim.Native.Nat.{◌+◌}
use native.Mathlib.Omega.{arith}
use mir.Syntax.{w64}
use mir.Val.{SFits}
use mir.Facts.{to_z-of_z}
use borrow.Author.Rules.{rules}
use Rattle.plain_day.specs.Layout.{count_in}
use Rattle.plain_day.proofs.writes.Signed.{signed}
use Rattle.plain_day.proofs.writes.append.Goals as goal

pub returns : goal.returns
returns c =
    let h : SFits w64 c.from.result = search rules in
    rw (c.count_in-n.ensures, to_z-of_z h, c.from.ensures, signed (count_in c.args.day.now + 1) (omega (arith, c.requires.1)))
