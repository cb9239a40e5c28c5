-- `columns::shares::share_by` meets its contract. Assumes nothing.
use mathlib.Core.Path.{sym, ap, ◌∙◌}
use native.Mathlib.Omega.{arith}
use lib.Dec.{lit≤}
use mathlib.Core.List.{map}
use lib.IntN.{nat_abs}
use lib.ListN.{length}
use mir.Facts.{to_z-of_z}
use Rattle.numbers.specs.Sums.{total}
use Rattle.numbers.proofs.Amounts.{widen}
use Rattle.columns.proofs.Shared.{fitted, sizes_long, sizes_bounded}
use Rattle.columns.proofs.shares.Sharing.{all_keys, shared_out}
use Rattle.columns.proofs.shares.share_by.Goals as goal

pub sizes_of-requires : goal.sizes_of-requires
sizes_of-requires c = (omega arith, λ i. widen (c.requires.within.4 i) (lit≤ tt))

pub invariant_of-weights : goal.invariant_of-weights
invariant_of-weights c =
    let a = c.args in
    let p = c.requires in
    let w = fitted (length a.amounts.now) (map nat_abs a.amounts.now) a.sizes.now c.sizes_of.ensures (p.weight_sum_value.2 ∙ sym p.within.3) in
    record { summed = p.weight_sum_value.0 ∙ sym (ap total w); bounded = sizes_bounded a.amounts.now w p.within.4 }

pub prorate_signed-requires : goal.prorate_signed-requires
prorate_signed-requires c =
    let a = c.args in
    let p = c.requires in
    let k = all_keys a.users.now a.keys.now c.keys_of.ensures p.weight_sum_value.1 in
    let w = fitted (length a.amounts.now) (map nat_abs a.amounts.now) a.sizes.now c.sizes_of.ensures (p.weight_sum_value.2 ∙ sym p.within.3) in
    let l = sizes_long a.amounts.now w in record { within = (rw (to_z-of_z c.ranges.amount) p.within.0, omega arith, omega arith); ws_in_bounds = (omega (arith, ap length k), omega arith) }

pub returns : goal.returns
returns c =
    let a = c.args in
    let p = c.requires in
    let k = all_keys a.users.now a.keys.now c.keys_of.ensures p.weight_sum_value.1 in
    let w = fitted (length a.amounts.now) (map nat_abs a.amounts.now) a.sizes.now c.sizes_of.ensures (p.weight_sum_value.2 ∙ sym p.within.3) in
    shared_out a.amount a.users.now a.amounts.now a.shares.now k w p.within.3 (rw (to_z-of_z c.ranges.amount) at c.prorate_signed.ensures)
