-- `plain_day::from_numbers::copy_users` meets its contract: the first i numbers are written. Assumes nothing.
use mathlib.Core.Path.{◌≡◌, ap, ◌∙◌}
use native.Mathlib.Omega.{arith}
use lib.IntN.{pos, nat_abs}
use lib.ListN.{length}
use mir.Syntax.{w64}
use mir.Val.{SFits}
use mir.Facts.{to_z-of_z}
use Rattle.numbers.specs.Sums.{atZ, table}
use Rattle.numbers.proofs.Filled.{fill_none, fill_step, fill_all}
use Rattle.numbers.proofs.Places.{every_at}
use Rattle.point_day.specs.Limits.{LAST_NUMBER}
use Rattle.plain_day.specs.Layout.{up_to}
use Rattle.plain_day.proofs.Lists.{table_map}
use borrow.Author.Rules.{rules}
use Rattle.plain_day.proofs.from_numbers.copy_users.Goals as goal

pub loop-i-init : goal.loop-i-init
loop-i-init c = (omega arith, fill_none _ _)

pub user_number-requires : goal.user_number-requires
user_number-requires c =
    let i = c.loop-i.i in
    let h : SFits w64 (atZ c.args.xs.now i) = search rules in
    rw (to_z-of_z h) (every_at (up_to LAST_NUMBER) (pos 0) c.args.xs.now c.requires.1 i (omega arith))

pub bounds-users-i : goal.bounds-users-i
bounds-users-i c = omega (arith, c.loop-i.invariant.1.long)

pub loop-i-preserved : goal.loop-i-preserved
loop-i-preserved c =
    let a = c.args in
    let h : SFits w64 (atZ a.xs.now c.loop-i.i) = search rules in
    (omega arith, fill_step c.loop-i.invariant.1 (omega arith) (rw (to_z-of_z h) at c.user_number.ensures))

pub shape_of-users : goal.shape_of-users
shape_of-users c = c.loop-i.invariant.1.long

pub returns : goal.returns
returns c =
    let a = c.args in
    let e : c.loop-i.i ≡ length a.xs.now = omega arith in
    fill_all c.loop-i.invariant.1 (omega arith) ∙ ap (table (λ k. nat_abs (atZ a.xs.now k))) e ∙ table_map nat_abs (pos 0) a.xs.now
