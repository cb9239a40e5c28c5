-- `allot::balance::spread_all` meets its contract: a buffer that is filled five cells at a time. Assumes nothing.
use mathlib.Core.Path.{◌≡◌, sym, ap, ap₂, ◌∙◌}
use Prim.Native.Nat.{ℕ, ◌+◌, ◌*◌, ◌<◌, ◌-◌}
use lib.ListN.{length-drop, length}
use lib.Seq.{length-take-le}
use Rattle.numbers.specs.Sums.{at, atZ, total}
use Rattle.numbers.proofs.Sums.{at_table, length_table}
use Rattle.numbers.proofs.Amounts.{back}
use Rattle.proration.specs.Proration.{prorateZ}
use Rattle.point_day.specs.Calls.{or_kind_1, kinds, with_share}
use Rattle.allot.specs.UserWeights.{consumption_and_losses, weight_at}
use Rattle.allot.specs.Basis.{are_all}
use Rattle.allot.proofs.balance.Cells.{share_long}
use Rattle.allot.proofs.balance.Parts.{parts_none, parts_step}
use native.Mathlib.Omega.{arith}
use Rattle.allot.proofs.balance.spread_all.Goals as goal

pub loop-s-init : goal.loop-s-init
loop-s-init c =
    let a = c.args in
    let n = length a.shares.now in
    let r = a.offtakes.now.in_range in
    parts_none _ n (λ i l. share_long _ _ i r.consumption.long r.losses.long (omega (arith, c.requires.shares_len_bound.0)) (are_all a.kinds) (atZ a.shares.now i)) a.cells.now

pub bounds-ws-s : goal.bounds-ws-s
bounds-ws-s c =
    let a = c.args in
    omega (arith, ap length c.requires.ws_value.0, length_table (weight_at (are_all a.kinds) a.offtakes.now.consumption.now a.offtakes.now.losses.now) (length a.shares.now))

pub spread-requires : goal.spread-requires
spread-requires c =
    let a = c.args in
    let at-loop = c.loop-s in
    let i = at-loop.s in
    let h = c.requires.ws_value.1 i in
    let k : 5 * i + 5 - 5 * i ≡ 5 = omega arith in
    let w = c.kind_weights.ensures in (
      rw (back h (omega arith)) h,
      w.bounded,
      ap (λ t. at t i) c.requires.ws_value.0 ∙ at_table (weight_at (are_all a.kinds) a.offtakes.now.consumption.now a.offtakes.now.losses.now) (length a.shares.now) i (omega arith) ∙ sym (ap total w.value),
      length-take-le _ _ (omega (arith, length-drop (5 * i) at-loop.cells, at-loop.invariant.long, c.requires.shares_len_bound.1, c.requires.shares_len_bound.0)) ∙ k,
    )

pub loop-s-preserved : goal.loop-s-preserved
loop-s-preserved c =
    let a = c.args in
    let cs = a.offtakes.now.consumption.now in
    let ls = a.offtakes.now.losses.now in
    let zs = a.shares.now in
    let at-loop = c.loop-s in
    let i = at-loop.s in
    let k : 5 * i + 5 - 5 * i ≡ 5 = omega arith in
    let r = a.offtakes.now.in_range in
    let five : (j : ℕ) → j < length zs → length (with_share (are_all a.kinds) (consumption_and_losses cs ls j) (atZ zs j)).balance ≡ 5 =
    λ j l. share_long cs ls j r.consumption.long r.losses.long (omega (arith, c.requires.shares_len_bound.0)) (are_all a.kinds) (atZ zs j) in
    parts_step _ (length zs) five a.cells.now at-loop.invariant (omega arith) (omega (arith, c.requires.shares_len_bound.0, c.requires.shares_len_bound.1)) k
    (c.spread.ensures ∙ ap₂ (λ z ws. prorateZ z (or_kind_1 ws) kinds) (back (c.requires.ws_value.1 i) (omega arith)) c.kind_weights.ensures.value)
