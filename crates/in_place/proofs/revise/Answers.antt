-- `in_place::revise` meets its contract: what its tests find, it does. Assumes nothing.
use mathlib.Core.Path.{◌≡◌, refl, sym, ap, ◌∙◌}
use mathlib.Core.Bool.{true}
use mathlib.Core.List.{List, [], ◌∷◌, ◌++◌}
use Prim.Native.Nat.{◌-◌}
use native.Mathlib.Omega.{arith}
use lib.IntN.{ℤ, pos}
use lib.ListN.{length, take, set, replicate}
use borrow.Author.Rules.{rules}
use Rattle.std.specs.Prelude.{Ok, Err}
use Rattle.numbers.proofs.Refusals.{status_passed, refusal_passed, refused_not_0}
use Rattle.point_day.specs.Limits.{USERS, CELLS, TOLERANCE}
use Rattle.point_day.specs.Calls.{join, line, measure, allot, revise, start_final, stand_in}
use Rattle.point_day.specs.Day.{next}
use Rattle.point_day.specs.Struct.{rows_of, called}
use Rattle.taken.proofs.Facts.{known_few, known_sum, known_measurement}
use Rattle.revise.specs.Revised.{Tested}
use Rattle.revise.specs.declared.Revision.{Revision}
use Rattle.revise.specs.declared.Revision.TheVariants.{Within, Assigned}
use Rattle.stand_in.specs.Rows.{rows_in}
use Rattle.plain_day.specs.Layout.{STAGE_AT, ALLOTTED_AT, CONSUMPTION_AT, LOSSES_AT, BALANCE_AT, REVISION_AT, put, is_readable, day_in, stage_number}
use Rattle.plain_day.specs.Plain.{plain, plain_call}
use Rattle.plain_day.specs.Tested.{TestedNumbers}
use Rattle.plain_day.proofs.Outcomes.{untaken}
use Rattle.plain_day.proofs.Ranges.{part_length}
use Rattle.in_place.specs.Values.{revision}
use Rattle.in_place.proofs.Effects as effect
use Rattle.in_place.proofs.Taken.{long, stage_read, refused_by}
use Rattle.in_place.proofs.revise.Goals as goal

module _ (xs : List ℤ) (e : is_readable xs ≡ true) where
  -- R is assigned, and the revisions rs are put
  assigned : (v : Revision) (R : ℤ) (rs : List ℤ) → v ≡ Assigned R → length rs ≡ USERS → Tested TOLERANCE (day_in xs) (Ok v) rs → {ys : List ℤ} → ys ≡ put REVISION_AT rs xs
      → (vs : List ℤ) → plain 0 (revision v) ys ≡ plain_call (called (revise TOLERANCE)) vs xs
  assigned (Within R') R rs q n T p vs = cc
  assigned (Assigned R') R rs q n T p vs = effect.assigns xs e vs R' rs n T refl refl refl p

  -- it is not, and the numbers stay
  kept : (v : Revision) (rs : List ℤ) → ((R : ℤ) → v ≡ Assigned R → ⊥) → Tested TOLERANCE (day_in xs) (Ok v) rs → (vs : List ℤ) → plain 0 (revision v) xs ≡ plain_call (called (revise TOLERANCE)) vs xs
  kept (Within R) rs h T vs = effect.within xs e vs R T refl refl refl
  kept (Assigned R) rs h T vs = absurd (h R refl)

pub returns-in_err-state : goal.returns-in_err-state
returns-in_err-state c = λ vs. rw (refusal_passed _ _ c.from_residual.ensures.1) (untaken (revise TOLERANCE) vs c.args.day.now c.in_err-state.ensures)

pub slice_bounds-taken_test-end : goal.slice_bounds-taken_test-end
slice_bounds-taken_test-end c = omega (arith, long c.args.day.now c.in_ok-state.ensures)

pub taken_test-requires : goal.taken_test-requires
taken_test-requires c =
    let xs = c.args.day.now in
    let t : TestedNumbers xs (Ok c.in_ok-state.state) = c.in_ok-state.ensures in
    (record { day = day_in xs; holds = record { known = t.1; revision = unfold day_in in refl } }, refl, omega arith)

pub returns-in_err-revision : goal.returns-in_err-revision
returns-in_err-revision c =
    let xs = c.args.day.now in
    let t : TestedNumbers xs (Ok c.in_ok-state.state) = c.in_ok-state.ensures in
    λ vs. rw (refusal_passed _ _ c.from_residual-in_err-revision.ensures.1) (refused_by xs t (revise TOLERANCE) vs _ (c.in_err-revision.ensures (day_in xs) t.1 (unfold day_in in refl)))

pub put-requires : goal.put-requires
put-requires c =
    let w : length c.taken_test.new.column ≡ USERS = search rules in
    omega (arith, w, long c.args.day.now c.in_ok-state.ensures)

pub returns-in-Assigned : goal.returns-in-Assigned
returns-in-Assigned c =
    let xs = c.args.day.now in
    let t : TestedNumbers xs (Ok c.in_ok-state.state) = c.in_ok-state.ensures in
    assigned xs t.0 _ c.in-Assigned.field-0 _ c.in-Assigned.is (search rules) (c.in_ok-revision.ensures (day_in xs) t.1 (unfold day_in in refl)) c.put.ensures

pub returns-in_default : goal.returns-in_default
returns-in_default c =
    let xs = c.args.day.now in
    let t : TestedNumbers xs (Ok c.in_ok-state.state) = c.in_ok-state.ensures in
    kept xs t.0 _ _ c.in_default.not-Assigned (c.in_ok-revision.ensures (day_in xs) t.1 (unfold day_in in refl))
