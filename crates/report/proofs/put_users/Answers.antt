-- `report::put_users` meets its contract. Assumes nothing.
use Rattle.std.proofs.Common.{refl, ◌∙◌, arith}
use Rattle.numbers.specs.Sums.{table}
use Rattle.numbers.specs.Lists.{flat}
use Rattle.report.specs.Lines.{slot_line}
use Rattle.report.proofs.refusal.Writing.{put_length, put_more, put_none, put_as}
use Rattle.report.proofs.Figures.{one_more}
use Rattle.report.proofs.put_users.Goals as goal

pub loop-slot-init : goal.loop-slot-init
unfolding table flat
loop-slot-init c =
    let t = c.args.text.now in
    (put_none t.buffer.now t.len (omega (arith, c.requires.1)), omega arith, refl)

pub put_user-requires : goal.put_user-requires
put_user-requires c =
    let l = c.loop-slot.invariant in
    (omega (arith, c.requires.0), omega (arith, put_length l.0, l.1, c.requires.1))

pub loop-slot-preserved : goal.loop-slot-preserved
loop-slot-preserved c =
    let l = c.loop-slot in
    let d = c.args.slots.now in
    let u = c.put_user.ensures in
    let f = slot_line d.users.now d.consumption.now d.losses.now d.shares.now in (
      put_as (one_more f l.slot) (put_more l.invariant.0 (f l.slot) u.added (omega (arith, u.bound, l.invariant.1, put_length l.invariant.0))),
      omega (arith, u.bound, l.invariant.1),
      u.same_reference ∙ l.invariant.2,
    )
