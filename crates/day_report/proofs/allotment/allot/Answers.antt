-- `day_report::allotment::allot` meets its contract. Assumes nothing.
use mathlib.Core.Path.{◌≡◌, refl, ap, ◌∙◌}
use Prim.Native.Nat.{◌-◌}
use lib.IntN.{ℤ, pos}
use lib.ListN.{length, length-replicate}
use lib.Seq.{length-take-le}
use Rattle.numbers.proofs.Amounts.{widen, sfits, within_sub}
use Rattle.numbers.specs.declared.Refusal.TheVariants.{NoUser}
use Rattle.point_day.specs.Limits.{USERS}
use Rattle.report.proofs.Figures.{cast_safe}
use Rattle.file_lines.proofs.Steps.{sum_small, few, limited_consumption, limited_losses}
use Rattle.day_report.proofs.allotment.Allotting.{refusing, downstream_low, emission_low, difference, balance_small, in_range, no_user, no_room, with_room, by_shares, shares_small}
use borrow.Author.Rules.{rules}
use native.Mathlib.Omega.{arith}
use Rattle.day_report.proofs.allotment.allot.Goals as goal

pub returns-then-n-eq0 : goal.returns-then-n-eq0
returns-then-n-eq0 c =
    let a = c.args in
    let both = refusing a.out.now NoUser (no_user c.requires.2 a.header.emission a.header.downstream c.requires.1 c.if-n-eq0.true a.header.day) in
    record { result_value = both.0; out_after = both.1 }

pub returns-then-out-lt-REPORT_ROOM : goal.returns-then-out-lt-REPORT_ROOM
returns-then-out-lt-REPORT_ROOM c =
    let a = c.args in
    let both = no_room c.requires.2 a.header.emission a.header.downstream c.requires.1 c.if-n-eq0.false a.header.day a.out.now c.if-out-lt-REPORT_ROOM.true in
    record { result_value = both.0; out_after = both.1 }

pub overflow_sub-net : goal.overflow_sub-net
overflow_sub-net c =
    omega (arith, downstream_low c.requires.2 c.args.header.emission c.args.header.downstream c.requires.1)

pub overflow_cast-balance : goal.overflow_cast-balance
overflow_cast-balance c =
    record { sfits = omega (arith, emission_low c.requires.2 c.args.header.emission c.args.header.downstream c.requires.1) }

pub overflow_cast-balance-2 : goal.overflow_cast-balance-2
overflow_cast-balance-2 c = record { sfits = omega (arith, sum_small c.requires.2) }

pub overflow_sub-balance : goal.overflow_sub-balance
overflow_sub-balance c =
    let e = c.args.header.emission in
    let w = c.args.header.downstream in
    sfits (within_sub (cast_safe (e - w) (omega (arith, emission_low c.requires.2 e w c.requires.1))) (cast_safe c.args.entered.now.offtake (omega (arith, sum_small c.requires.2)))) (omega arith)

pub shared_ref_as_front-share_out : goal.shared_ref_as_front-share_out
shared_ref_as_front-share_out c = few c.requires.2

pub share_out-requires : goal.share_out-requires
share_out-requires c =
    let a = c.args in
    let e = a.header.emission in
    let w = a.header.downstream in
    let d = difference c.requires.2 e w c.requires.1 refl in
    let long : length a.entered.now.users ≡ USERS = search rules in
    let first = length-take-le a.header.sections a.entered.now.users (omega (arith, few c.requires.2, long)) in
    let room = ap length c.repeat-shares.ensures ∙ length-replicate {A = ℤ} USERS (pos 0) in
    record { within = (balance_small c.requires.2 e w c.requires.1 d, in_range c.requires.2 e w c.requires.1); users_nonzero = (omega (arith, c.if-n-eq0.false, first), omega (arith, few c.requires.2, first), omega (arith, few c.requires.2, first, room)) }

pub invariant_of-slots : goal.invariant_of-slots
invariant_of-slots c =
    let a = c.args in
    let e = a.header.emission in
    let w = a.header.downstream in
    let d = difference c.requires.2 e w c.requires.1 refl in record {
      small = (
        λ i. widen (limited_consumption c.requires.2 i) (omega arith),
        λ i. widen (limited_losses c.requires.2 i) (omega arith),
        shares_small c.requires.2 e w c.requires.1 c.if-n-eq0.false d c.repeat-shares.ensures c.share_out.ensures.shares_after,
      );
    }

pub put_allotted-requires : goal.put_allotted-requires
put_allotted-requires c =
    let h = c.args.header in
    (omega (arith, c.if-out-lt-REPORT_ROOM.false), c.requires.0, omega (arith, emission_low c.requires.2 h.emission h.downstream c.requires.1), sum_small c.requires.2, few c.requires.2)

pub returns : goal.returns
returns c =
    let a = c.args in
    let e = a.header.emission in
    let w = a.header.downstream in
    let d = difference c.requires.2 e w c.requires.1 refl in
    let t = by_shares c.requires.2 e w c.requires.1 c.if-n-eq0.false d c.repeat-shares.ensures c.share_out.ensures.shares_after a.header.day in
    let both = with_room c.requires.2 e w c.requires.1 c.if-n-eq0.false a.header.day a.out.now (omega (arith, c.if-out-lt-REPORT_ROOM.false)) t
    c.put_allotted.ensures.value c.put_allotted.ensures.out_after in
    record { result_value = both.0; out_after = both.1 }
