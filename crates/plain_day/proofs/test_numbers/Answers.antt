-- `plain_day::test_numbers` meets its contract. Assumes nothing.
use mathlib.Core.Path.{◌≡◌, refl, sym, ◌∙◌}
use mathlib.Core.Bool.{true}
use native.Mathlib.Omega.{arith}
use borrow.Author.Rules.{rules}
use lib.ListN.{length}
use Rattle.point_day.specs.Limits.{USERS}
use Rattle.plain_day.specs.Layout.{USERS_AT, is_readable}
use Rattle.plain_day.proofs.Ranges.{laid_length, laid_users, part_length}
use Rattle.plain_day.proofs.Outcomes.{none_read, one_read}
use Rattle.plain_day.proofs.test_numbers.Goals as goal

pub returns-then-not-is_readable : goal.returns-then-not-is_readable
returns-then-not-is_readable c = (none_read c.args.day.now (sym c.if-not-is_readable.ensures), refl)

pub slice_bounds-copy_users-end : goal.slice_bounds-copy_users-end
slice_bounds-copy_users-end c = omega (arith, laid_length c.args.day.now (sym c.if-not-is_readable.ensures))

pub copy_users-requires : goal.copy_users-requires
copy_users-requires c =
    let xs = c.args.day.now in
    let e : is_readable xs ≡ true = sym c.if-not-is_readable.ensures in
    let long : length c.repeat-users.result ≡ USERS = search rules in
    (long ∙ sym (part_length xs e USERS_AT USERS (omega arith)), laid_users xs e)

pub test_read-requires : goal.test_read-requires
test_read-requires c =
    let xs = c.args.day.now in
    let e : is_readable xs ≡ true = sym c.if-not-is_readable.ensures in
    (laid_length xs e, c.copy_users.ensures)

pub returns : goal.returns
returns c = one_read c.args.day.now _ (sym c.if-not-is_readable.ensures) c.test_read.ensures
