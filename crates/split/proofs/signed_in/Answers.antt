-- `split::signed_in` meets its contract: the shares of the size, with the sign. Assumes nothing.
use Rattle.std.proofs.Common.{◌≡◌, ◌∙◌, sym, nat_abs, arith, to_z-of_z}
use Rattle.numbers.proofs.Amounts.{lt_zero}
use Rattle.proration.proofs.Prorated.{take_long}
use Rattle.proration.proofs.Signs.{shares_long, shares_small, signed_are}
use Rattle.split.proofs.signed_in.Goals as goal

pub give-requires : goal.give-requires
give-requires g c =
    let a = c.args in
    let p = c.requires.within in
    let e : c.unsigned_abs.result ≡ nat_abs a.amount = rw (to_z-of_z c.ranges.amount) at c.unsigned_abs.ensures.value in
    let l = sym (take_long _ _ 0 c.repeat-room.ensures p.2) in
    (omega (arith, shares_long a.amount a.weights.each.now a.keys.now p.1 e _ l c.prorate_in.ensures), λ i. omega (arith, shares_small a.amount a.weights.each.now a.keys.now p.1 e _ l c.prorate_in.ensures p.0 i))

pub returns : goal.returns
returns g c =
    let a = c.args in
    let p = c.requires.within in
    let f = to_z-of_z c.ranges.amount in
    let e : c.unsigned_abs.result ≡ nat_abs a.amount = rw f at c.unsigned_abs.ensures.value in
    signed_are a.amount a.weights.each.now a.keys.now p.1 e _ (sym (take_long _ _ 0 c.repeat-room.ensures p.2)) c.prorate_in.ensures a.out.now ((rw f at c.is_negative.ensures) ∙ lt_zero a.amount) c.give.ensures
