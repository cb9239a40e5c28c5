-- `revise::taken_test` meets its contract, outcome by outcome, on any point-day of which this is the test. Assumes nothing.
use mathlib.Core.List.{zip_with}
use mathlib.Core.Path.{◌≡◌, sym, ap, ap₂, ◌∙◌}
use native.Mathlib.Omega.{arith}
use lib.Dec.{lit<}
use lib.IntN.{pos, ◌+ℤ◌}
use lib.ListN.{length}
use mir.Syntax.{w64}
use mir.Val.{to_z, of_z}
use borrow.Author.Rules.{rules}
use Rattle.numbers.proofs.Lists.{both_snd}
use Rattle.numbers.proofs.Amounts.{back}
use Rattle.numbers.proofs.Refusals.{refusal_passed}
use Rattle.point_day.specs.Limits.{USERS}
use Rattle.point_day.specs.Day.{no_more, provisional}
use Rattle.point_day.specs.Calls.{within_tolerance, negative}
use Rattle.point_day.specs.Struct.{padded, outcome}
use Rattle.taken.proofs.Facts.{known_few, known_measurement}
use Rattle.taken.specs.Tested.{any_large}
use Rattle.revise.specs.Revisions.{outstanding}
use Rattle.revise.proofs.outstanding.Columns.{open_is, users_long, apart, filled, held_right, outstanding_is, wholes_are, wholes_long, wholes_reach, numbered_are, numbered_small, weights_sum, shares_are, revisions_small}
use Rattle.revise.proofs.Revising.{revise_1, revise_within, revise_11, revise_12, revise_done}
use Rattle.revise.proofs.taken_test.Goals as goal

pub returns-then-not-is_revisable : goal.returns-then-not-is_revisable
returns-then-not-is_revisable c d k z =
    revise_1 d k.sized k.is_taken c.args.tolerance (open_is k ∙ sym c.if-not-is_revisable.ensures)

pub outstanding-amount-requires : goal.outstanding-amount-requires
outstanding-amount-requires c =
    let k = c.requires.0.holds.known in
    (known_measurement k, held_right k)

pub returns-then-size_at_most : goal.returns-then-size_at_most
returns-then-size_at_most c d k z =
    let q = c.outstanding-amount in
    let R : to_z w64 (of_z w64 q.result) ≡ outstanding d = back q.ensures.1 (lit< tt) ∙ q.ensures.0 ∙ outstanding_is k in
    let m = sym (ap (no_more c.args.tolerance) R) ∙ sym c.size_at_most.ensures in
    ap (λ y. outcome (within_tolerance y) d) R ∙ revise_within d k.sized k.is_taken c.args.tolerance (open_is k ∙ sym c.if-not-is_revisable.ensures) (m ∙ c.if-size_at_most.true)

pub slice_bounds-any_negative-end : goal.slice_bounds-any_negative-end
slice_bounds-any_negative-end c = wholes_reach c.requires.0.holds.known c.requires.1

pub slice_bounds-any_negative-end-2 : goal.slice_bounds-any_negative-end-2
slice_bounds-any_negative-end-2 c = sym (wholes_long c.requires.0.holds.known c.requires.1)

pub returns-then-any_negative : goal.returns-then-any_negative
returns-then-any_negative c d k z =
    let q = c.outstanding-amount in
    let R : to_z w64 (of_z w64 q.result) ≡ outstanding d = back q.ensures.1 (lit< tt) ∙ q.ensures.0 ∙ outstanding_is k in
    let m = sym (ap (no_more c.args.tolerance) R) ∙ sym c.size_at_most.ensures in
    let n = sym (ap negative (wholes_are k c.requires.1)) ∙ sym c.any_negative.ensures in
    revise_11 d k.sized k.is_taken c.args.tolerance (open_is k ∙ sym c.if-not-is_revisable.ensures) (m ∙ c.if-size_at_most.false) (n ∙ c.if-any_negative.true)

pub shared_ref_as_front-users : goal.shared_ref_as_front-users
shared_ref_as_front-users c = known_few c.requires.0.holds.known

pub assign-requires : goal.assign-requires
assign-requires c =
    let k = c.requires.0.holds.known in
    let n = sym (ap negative (wholes_are k c.requires.1)) ∙ sym c.any_negative.ensures ∙ c.if-any_negative.false in
    let r = c.outstanding-amount.ensures.1 in
    let u = users_long k in
    let l : length c.args.state.now.wholes ≡ USERS = search rules in
    record {
      amount = rw (back r (lit< tt)) r;
      sum = c.unsigned_abs-weight_sum.ensures.value ∙ weights_sum k c.requires.1 n;
      some = omega (arith, u, filled k (both_snd (provisional c.args.state.now.stage) _ (sym c.if-not-is_revisable.ensures)));
      few = omega (arith, u, known_few k);
      apart = apart k;
      revisions_long = rw (← c.requires.0.holds.revision) k.sized.revision;
      column_long = ap length c.requires.1 ∙ l;
      revisions = rw (← c.requires.0.holds.revision) (revisions_small k);
      wholes = numbered_small k c.requires.1;
    }

pub returns-in_err-assign : goal.returns-in_err-assign
returns-in_err-assign c d k z =
    let q = c.outstanding-amount in
    let R : to_z w64 (of_z w64 q.result) ≡ outstanding d = back q.ensures.1 (lit< tt) ∙ q.ensures.0 ∙ outstanding_is k in
    let m = sym (ap (no_more c.args.tolerance) R) ∙ sym c.size_at_most.ensures in
    let n = sym (ap negative (wholes_are k c.requires.1)) ∙ sym c.any_negative.ensures in
    let A = c.in_err-assign.ensures in
    let W = sym (ap₂ (λ x y. any_large (zip_with ◌+ℤ◌ x y)) (numbered_are k c.requires.1) (shares_are k c.requires.1 R)) in
    rw (refusal_passed _ _ c.from_residual.ensures.1, A.1)
    (revise_12 d k.sized k.is_taken c.args.tolerance (open_is k ∙ sym c.if-not-is_revisable.ensures) (m ∙ c.if-size_at_most.false) (n ∙ c.if-any_negative.false) (W ∙ A.0))

pub returns : goal.returns
returns c d k z =
    let q = c.outstanding-amount in
    let R : to_z w64 (of_z w64 q.result) ≡ outstanding d = back q.ensures.1 (lit< tt) ∙ q.ensures.0 ∙ outstanding_is k in
    let m = sym (ap (no_more c.args.tolerance) R) ∙ sym c.size_at_most.ensures in
    let n = sym (ap negative (wholes_are k c.requires.1)) ∙ sym c.any_negative.ensures in
    let A = c.in_ok-assign.ensures in
    let g = shares_are k c.requires.1 R in
    let W = sym (ap₂ (λ x y. any_large (zip_with ◌+ℤ◌ x y)) (numbered_are k c.requires.1) g) in
    let v = A.1 ∙ ap₂ (λ x y. zip_with ◌+ℤ◌ x (padded USERS (pos 0) y)) (sym z) g in
    record {
      is = revise_done d k.sized k.is_taken c.args.tolerance (open_is k ∙ sym c.if-not-is_revisable.ensures) (m ∙ c.if-size_at_most.false) (n ∙ c.if-any_negative.false) (W ∙ A.0) R v;
      taken = k.is_taken;
    }
