-- `stand_in::opening::row_test` meets its contract, outcome by outcome. Assumes nothing.
use mathlib.Core.Path.{sym, ap, ◌∙◌}
use native.Mathlib.Omega.{arith}
use lib.Dec.{lit<, lit≤}
use lib.IntN.{pos, nat_abs}
use lib.ListN.{length, length-replicate}
use Rattle.numbers.specs.Amounts.{Within}
use Rattle.numbers.proofs.Amounts.{back, widen}
use Rattle.point_day.specs.Limits.{USERS, LIMIT}
use Rattle.point_day.specs.Calls.{negative}
use Rattle.columns.proofs.Shared.{sizes_sum}
use Rattle.stand_in.proofs.opening.Standing.{count_few, users_few, users_some, same_long, amounts_small, sum_kept, row_negative, row_large, row_passes}
use Rattle.stand_in.proofs.opening.row_test.Goals as goal

pub part_of-users-requires : goal.part_of-users-requires
part_of-users-requires c =
    let l = c.args.rows.now in
    let u = c.requires.usable in
    (u.found, l.counts_len, count_few _ _ _ u l.users_len l.amounts_len, l.users_len)

pub part_of-amounts-requires : goal.part_of-amounts-requires
part_of-amounts-requires c =
    let l = c.args.rows.now in
    let u = c.requires.usable in
    (u.found, l.counts_len, count_few _ _ _ u l.users_len l.amounts_len, l.amounts_len)

pub returns-then-any_negative : goal.returns-then-any_negative
returns-then-any_negative c =
    let l = c.args.rows.now in
    row_negative _ _ _ c.requires.usable l.users_len l.amounts_len (ap negative (sym c.part_of-amounts.ensures) ∙ sym c.if-any_negative.ensures) c.args.shares.now

pub sum_of-requires : goal.sum_of-requires
sum_of-requires c =
    let l = c.args.rows.now in
    let u = c.requires.usable in
    rw c.part_of-amounts.ensures
    (omega (arith, same_long _ _ _ u l.users_len l.amounts_len, users_few _ _ _ u l.users_len l.amounts_len), λ i. widen (amounts_small _ _ _ u l.users_len l.amounts_len i) (lit≤ tt))

pub share_out-requires : goal.share_out-requires
share_out-requires c =
    let l = c.args.rows.now in
    let u = c.requires.usable in
    let w : Within LIMIT (pos c.args.net) = record { size = u.net } in
    let few = users_few _ _ _ u l.users_len l.amounts_len in
    let above = ap negative (sym c.part_of-amounts.ensures) ∙ sym c.if-any_negative.ensures in
    rw (c.part_of-users.ensures, c.part_of-amounts.ensures)
    record {
      within = (
        rw (back w (lit< tt)) w,
        users_some _ _ _ u l.users_len l.amounts_len,
        few,
        same_long _ _ _ u l.users_len l.amounts_len,
        amounts_small _ _ _ u l.users_len l.amounts_len,
      );
      weight_sum_value = (
        c.unsigned_abs-weight_sum.ensures.value ∙ ap nat_abs (sum_kept _ _ _ u l.users_len l.amounts_len (rw c.part_of-amounts.ensures at c.sum_of.ensures)) ∙ sizes_sum _ above,
        omega (arith, few, ap length c.requires.zeros, length-replicate USERS (pos 0)),
      );
    }

pub returns-then-wholes_too_large : goal.returns-then-wholes_too_large
returns-then-wholes_too_large c =
    let l = c.args.rows.now in
    let w : Within LIMIT (pos c.args.net) = record { size = c.requires.usable.net } in
    let shared = rw (back w (lit< tt), c.part_of-users.ensures, c.part_of-amounts.ensures) at c.share_out.ensures in
    let above = ap negative (sym c.part_of-amounts.ensures) ∙ sym c.if-any_negative.ensures in
    row_large _ _ _ c.requires.usable l.users_len l.amounts_len above c.args.shares.now _ c.requires.zeros shared (sym c.if-wholes_too_large.ensures)

pub returns : goal.returns
returns c =
    let l = c.args.rows.now in
    let w : Within LIMIT (pos c.args.net) = record { size = c.requires.usable.net } in
    let shared = rw (back w (lit< tt), c.part_of-users.ensures, c.part_of-amounts.ensures) at c.share_out.ensures in
    let above = ap negative (sym c.part_of-amounts.ensures) ∙ sym c.if-any_negative.ensures in
    row_passes _ _ _ c.requires.usable l.users_len l.amounts_len above c.args.shares.now _ c.requires.zeros shared (sym c.if-wholes_too_large.ensures)
