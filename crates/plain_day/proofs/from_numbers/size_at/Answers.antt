-- `plain_day::from_numbers::size_at` meets its contract. Assumes nothing.
use mir.Syntax.{w64}
use mir.Val.{SFits}
use mir.Facts.{to_z-of_z}
use Rattle.numbers.specs.Sums.{atZ}
use borrow.Author.Rules.{rules}
use Rattle.plain_day.proofs.from_numbers.size_at.Goals as goal

pub returns : goal.returns
returns c =
    let a = c.args in
    let h : SFits w64 (atZ a.xs.now a.i) = search rules in
    rw (to_z-of_z h) at c.unsigned_abs.ensures.value
