-- `allot::cells_test` meets its contract on any entering point-day that has these parts. Assumes nothing.
use mathlib.Core.Path.{◌≡◌, sym, ◌∙◌, subst⁻¹}
use mathlib.Core.List.{List}
use Prim.Native.Nat.{ℕ, ◌≤◌}
use lib.IntN.{ℤ}
use native.Mathlib.Omega.{arith}
use lib.ListN.{length, take}
use lib.Seq.{length-take-le}
use borrow.Author.Rules.{rules}
use Rattle.numbers.specs.Amounts.{SAFE, Within}
use Rattle.numbers.proofs.Amounts.{back, within_pos}
use Rattle.point_day.specs.Limits.{USERS, CELLS}
use Rattle.point_day.proofs.Taken.{taken_facts}
use Rattle.taken.proofs.Facts.{facts, taken_summable}
use Rattle.allot.specs.Allotted.{Tested}
use Rattle.allot.proofs.balance.Cells.{none_long}
use Rattle.allot.proofs.OfParts.{is_of_parts, allottable_parts}
use Rattle.allot.proofs.Outcomes.{cells_in_range, balances_small, large_after, users_are, sum_small, difference_is, balance_small, cells_left, allot_12, allot_done, fails, passes}
use Rattle.allot.proofs.cells_test.Goals as goal

pub net-requires : goal.net-requires
net-requires c =
    let x = c.requires.0 in
    (taken_facts _ (allottable_parts x.holds).has.known.is_taken).measurement

pub minus-day_balance-requires : goal.minus-day_balance-requires
minus-day_balance-requires c =
    let a = allottable_parts c.requires.0.holds in
    let k = a.has.known in
    let net = c.net in
    let w = sum_small _ k.sized k.is_taken a.entering k.sum in
    (rw (back (within_pos net.result) (omega (arith, net.ensures.1))) record { size = omega (arith, net.ensures.1) }, subst⁻¹ (Within SAFE) (back w (omega arith)) (record { size = omega (arith, w.size) }))

pub invariant_of-offtakes : goal.invariant_of-offtakes
invariant_of-offtakes c =
    let k = (allottable_parts c.requires.0.holds).has.known in
    record { in_range = cells_in_range _ k.sized k.is_taken }

pub shared_ref_as_front-users : goal.shared_ref_as_front-users
shared_ref_as_front-users c =
    let k = (allottable_parts c.requires.0.holds).has.known in
    omega (arith, (facts _ k.sized k.is_taken).few, k.sized.users)

pub balance_cells-requires : goal.balance_cells-requires
balance_cells-requires c =
    let a = allottable_parts c.requires.0.holds in
    let k = a.has.known in
    let z = k.sized in
    let t = k.is_taken in
    let net = c.net.ensures in
    let b = c.minus-day_balance.ensures ∙ difference_is _ z t a.entering net.0 net.1 k.sum in
    let small = balance_small _ z t a.entering a.measured a.users in
    let f = facts _ z t in
    let room : length c.args.state.now.wholes ≡ USERS = search rules in let first = length-take-le c.args.state.now.count c.args.state.now.users (omega (arith, f.few, z.users)) in record { within = (rw (b, back small (omega arith)) small, none_long c.requires.1, f.apart); users_nonzero = (omega (arith, a.users, first), omega (arith, f.few, first), omega (arith, f.few, first, room)) }

pub invariant_of-amounts : goal.invariant_of-amounts
invariant_of-amounts c =
    let cs : length c.args.consumption.now ≡ CELLS = search rules in
    let ls : length c.args.losses.now ≡ CELLS = search rules in
    let bs : length c.balance_cells.new.cells ≡ CELLS = search rules in
    let rs : length c.args.revision.now ≡ USERS = search rules in
    record { lengths = record { consumption = cs; losses = ls; balance = bs; revision = rs } }

-- a column of USERS amounts has slots for n users
slots : (n : ℕ) (zs : List ℤ) → n ≤ USERS → length zs ≡ USERS → length (take n zs) ≡ n
slots n zs few room = length-take-le n zs (omega (arith, few, room))

pub slice_bounds-shares-end : goal.slice_bounds-shares-end
slice_bounds-shares-end c =
    let k = (allottable_parts c.requires.0.holds).has.known in
    let room : length c.balance_cells.new.shares ≡ USERS = search rules in
    omega (arith, (facts _ k.sized k.is_taken).few, room)

pub slice_bounds-wholes-end : goal.slice_bounds-wholes-end
slice_bounds-wholes-end c =
    let k = (allottable_parts c.requires.0.holds).has.known in
    let room : length c.balance_cells.new.shares ≡ USERS = search rules in
    sym (slots c.args.state.now.count c.balance_cells.new.shares (facts _ k.sized k.is_taken).few room)

pub whole_amounts-requires : goal.whole_amounts-requires
whole_amounts-requires c =
    let a = allottable_parts c.requires.0.holds in
    let k = a.has.known in
    let z = k.sized in
    let t = k.is_taken in
    let net = c.net.ensures in
    let bs = c.balance_cells.new.cells in
    let w = cells_left _ z t a.entering a.measured a.users net.0 net.1 k.sum c.minus-day_balance.ensures c.requires.1 c.balance_cells.ensures.cells_after in
    let l = taken_summable _ z t in
    let room : length c.balance_cells.new.shares ≡ USERS = search rules in (
      omega (arith, slots c.args.state.now.count c.balance_cells.new.shares l.few room, l.few),
      l.consumption,
      l.losses,
      balances_small _ z t a.entering (users_are _ z t a.users) bs w,
      l.revision,
    )

pub returns-then-wholes_too_large : goal.returns-then-wholes_too_large
returns-then-wholes_too_large c d h =
    let a = allottable_parts h in
    let k = a.has.known in
    let net = c.net.ensures in
    let bs = c.balance_cells.new.cells in
    let long : length bs ≡ length c.args.cells.now = search rules in
    let w = cells_left _ k.sized k.is_taken a.entering a.measured a.users net.0 net.1 k.sum c.minus-day_balance.ensures c.requires.1 c.balance_cells.ensures.cells_after in
    let room : length c.balance_cells.new.shares ≡ USERS = search rules in
    let first = slots c.args.state.now.count c.balance_cells.new.shares (facts _ k.sized k.is_taken).few room in
    let large = large_after _ k.sized k.is_taken a.entering (users_are _ k.sized k.is_taken a.users) bs w (long ∙ none_long c.requires.1) _ (rw first at c.whole_amounts.ensures) in
    let o = allot_12 _ k.sized k.is_taken a.entering a.measured a.users (sym large ∙ sym c.wholes_too_large.ensures ∙ c.if-wholes_too_large.true) in
    subst⁻¹ (λ x. Tested bs x 12) (is_of_parts h.has) (fails bs _ 11 o)

pub returns : goal.returns
returns c d h =
    let a = allottable_parts h in
    let k = a.has.known in
    let net = c.net.ensures in
    let bs = c.balance_cells.new.cells in
    let long : length bs ≡ length c.args.cells.now = search rules in
    let w = cells_left _ k.sized k.is_taken a.entering a.measured a.users net.0 net.1 k.sum c.minus-day_balance.ensures c.requires.1 c.balance_cells.ensures.cells_after in
    let room : length c.balance_cells.new.shares ≡ USERS = search rules in
    let first = slots c.args.state.now.count c.balance_cells.new.shares (facts _ k.sized k.is_taken).few room in
    let large = large_after _ k.sized k.is_taken a.entering (users_are _ k.sized k.is_taken a.users) bs w (long ∙ none_long c.requires.1) _ (rw first at c.whole_amounts.ensures) in
    let o = allot_done _ k.sized k.is_taken a.entering a.measured a.users (sym large ∙ sym c.wholes_too_large.ensures ∙ c.if-wholes_too_large.false) w in
    subst⁻¹ (λ x. Tested bs x 0) (is_of_parts h.has) (passes bs _ record { is = o; taken = k.is_taken })
