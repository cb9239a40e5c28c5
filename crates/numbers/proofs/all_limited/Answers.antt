-- `numbers::all_limited` meets its contract: each amount passed so far is limited. Assumes nothing.
use Rattle.std.proofs.Common.{rules, ℤ, refl, ap, ap₂, ◌∙◌, ◌&&◌, leb, nat_abs, pos, arith, FitsSigned, w64, get_or}
use mir.Facts.{to_z-of_z}
use native.Mathlib.Numerals.{add-one}
use Rattle.numbers.specs.Lists.{every}
use Rattle.numbers.proofs.Lists.{every_more}
use Rattle.numbers.proofs.all_limited.Goals as goal

pub loop-x-init : goal.loop-x-init
loop-x-init c = (unfold every in refl, omega arith)

pub loop-x-preserved : goal.loop-x-preserved
loop-x-preserved c =
    let l = c.loop-x in
    let xs = c.args.xs.now in
    let limited = λ (x : ℤ). leb (nat_abs x) c.args.limit in
    let fits : FitsSigned w64 (get_or xs l.x-index (pos 0)) = search rules in
    let this = c.size_at_most-limited.ensures ∙ ap limited (to_z-of_z fits) in
    (rw (add-one l.x-index) (ap₂ ◌&&◌ l.invariant.0 this ∙ every_more limited (pos 0) xs l.x-index c.loop-x-test.true), omega arith)
