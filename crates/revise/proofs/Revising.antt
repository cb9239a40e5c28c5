-- Revise: revisions with the shares added are the layout of the day after it, and each outcome of the call. Assumes nothing.
use mathlib.Core.Path.{◌≡◌, refl, sym, ap, ap₂, ◌∙◌}
use mathlib.Core.Bool.{Bool, true, false, not}
use mathlib.Core.List.{List, [], ◌∷◌, map, zip_with}
use Prim.Native.Nat.{ℕ}
use lib.IntN.{ℤ, pos, nat_abs, ◌+ℤ◌}
use lib.ListN.{length-map}
use Rattle.numbers.specs.Sums.{pick}
use Rattle.numbers.specs.Lists.{both, every, flat}
use Rattle.numbers.proofs.Lists.{map_zip}
use Rattle.proration.specs.Proration.{prorateZ}
use Rattle.point_day.specs.Limits.{USERS, CELLS, AMOUNT}
use Rattle.point_day.specs.Fields.{set_revision, same_fields}
use Rattle.point_day.specs.Day.{User, Day, numbers, whole, no_more, too_large, provisional}
use Rattle.point_day.specs.Calls.{refused, within_tolerance, revision_assigned, Move, refuse, verdict, with_users, revised, negative, assigned, keep, assign, revise_by, revise}
use Rattle.point_day.specs.Struct.{Sized, read, padded, laid, taken, outcome, perform, called}
use Rattle.point_day.specs.declared.PointDay.{PointDay}
use Rattle.point_day.proofs.Taken.{Taken, taken_facts}
use Rattle.point_day.proofs.Back.{read_count, laid_read}
use Rattle.point_day.proofs.Called.{called_refused, called_accepted, test_holds, test_passed, none_left}
use Rattle.point_day.proofs.Wholes.{whole_revised, assigned_long}
use Rattle.point_day.proofs.Counts.{assigned_count}
use Rattle.columns.proofs.Padding.{zip_padded}
use Rattle.taken.specs.Tested.{any_large}
use Rattle.revise.specs.Revisions.{outstanding}

-- ---- a number of each user after its revision

map_revised : (f : User → ℤ) → ((u : User) (z : ℤ) → f (revised u z) ≡ f u +ℤ z) → (us : List User) (zs : List ℤ) → map f (zip_with revised us zs) ≡ zip_with ◌+ℤ◌ (map f us) zs
unfolding zip_with
map_revised f h [] zs = refl
map_revised f h (u ∷ us) [] = refl
map_revised f h (u ∷ us) (z ∷ zs) = ap₂ ◌∷◌ (h u z) (map_revised f h us zs)

every_map : {A B : Type 0} (p : B → Bool) (f : A → B) (xs : List A) → every (λ x. p (f x)) xs ≡ every p (map f xs)
unfolding every
every_map p f [] = refl
every_map p f (x ∷ xs) = ap (both (p (f x))) (every_map p f xs)

module _ (d : PointDay) (z : Sized d) (ok : taken d ≡ true) where
  abbrev t : Taken d
  t = taken_facts d ok

  abbrev us : List User
  us = (read d).users

  module _ (R : ℤ) where
    abbrev zs : List ℤ
    zs = prorateZ R (map (λ u. nat_abs (whole u)) us) (numbers us)

    -- ---- the layout

    same : {A : Type 0} (f : User → A) → ((u : User) (z : ℤ) → f (revised u z) ≡ f u) → map f (assigned R us) ≡ map f us
    unfolding assigned
    same f h = map_zip f f revised h us zs (assigned_long R us)

    revisions : padded USERS (pos 0) (map (λ (u : User). u.revision) (assigned R us)) ≡ zip_with ◌+ℤ◌ d.revision (padded USERS (pos 0) zs)
    unfolding assigned laid
    revisions =
        ap (padded USERS (pos 0)) (map_revised (λ (u : User). u.revision) (λ u z. refl) us zs)
        ∙ sym (zip_padded USERS (map (λ (u : User). u.revision) us) zs (length-map us (λ (u : User). u.revision) ∙ assigned_long R us))
        ∙ ap (λ (e : PointDay). zip_with ◌+ℤ◌ e.revision (padded USERS (pos 0) zs)) (laid_read d z t)

    laid_assigned : laid (with_users (assigned R us) (read d)) ≡ set_revision (zip_with ◌+ℤ◌ d.revision (padded USERS (pos 0) zs)) d
    unfolding laid
    laid_assigned = same_fields (record {
      stage = stage;
      allotted = allotted;
      measurement = measurement;
      count = assigned_count R us ∙ read_count d z t;
      users = ap (padded USERS 0) (same (λ (u : User). u.number) (λ u z. refl)) ∙ ap (λ (e : PointDay). e.users) (laid_read d z t);
      consumption = ap (λ l. padded CELLS (pos 0) (flat l)) (same (λ u. map pos u.consumption) (λ u z. refl)) ∙ ap (λ (e : PointDay). e.consumption) (laid_read d z t);
      losses = ap (λ l. padded CELLS (pos 0) (flat l)) (same (λ u. map pos u.losses) (λ u z. refl)) ∙ ap (λ (e : PointDay). e.losses) (laid_read d z t);
      balance = ap (λ l. padded CELLS (pos 0) (flat l)) (same (λ (u : User). u.balance) (λ u z. refl)) ∙ ap (λ (e : PointDay). e.balance) (laid_read d z t);
      revision = revisions;
    })
      where
        stage : (read d).stage ≡ d.stage
        stage = unfold read in refl

        allotted : (read d).allotted ≡ d.allotted
        allotted = unfold read in refl

        measurement : (read d).measurement ≡ d.measurement
        measurement = unfold read in refl

    -- the whole amounts of the users after it
    wholes_after : too_large (assigned R us) ≡ any_large (zip_with ◌+ℤ◌ (map whole us) zs)
    unfolding assigned
    wholes_after = ap not (every_map (no_more AMOUNT) whole (zip_with revised us zs)) ∙ ap any_large (map_revised whole whole_revised us zs)

  -- ---- the outcomes

  abbrev R : ℤ
  R = outstanding d

  module _ (tolerance : ℕ) where
    moved : (m : Move) → revise tolerance (read d) ≡ m → called (λ (x : Day). m) d ≡ called (revise tolerance) d
    unfolding called
    moved m e = ap (λ w. pick (taken d) (perform w d) (outcome (refused 2) d)) (sym e)

    by_keep : no_more tolerance R ≡ true → revise tolerance (read d) ≡ keep R (read d)
    unfolding revise_by outstanding
    by_keep e = ap (λ p. pick p (keep R (read d)) (assign R (read d))) e

    by_assign : no_more tolerance R ≡ false → revise tolerance (read d) ≡ assign R (read d)
    unfolding revise_by outstanding
    by_assign e = ap (λ p. pick p (keep R (read d)) (assign R (read d))) e

    pub revise_1 : both (provisional d.stage) d.allotted ≡ false → outcome (refused 1) d ≡ called (revise tolerance) d
    unfolding revise_by read outstanding
    revise_1 h = called_refused (revise tolerance) d 1 ok (go (no_more tolerance R))
      where
        go : (p : Bool) → verdict (pick p (keep R (read d)) (assign R (read d))).tests ≡ refuse 1
        go true = test_holds 1 _ _ (ap not h)
        go false = test_holds 1 _ _ (ap not h)

    module _ (open_day : both (provisional d.stage) d.allotted ≡ true) where
      pub revise_within : no_more tolerance R ≡ true → outcome (within_tolerance R) d ≡ called (revise tolerance) d
      unfolding read
      revise_within e =
          ap (outcome (within_tolerance R)) (sym (laid_read d z t))
          ∙ called_accepted (λ (x : Day). keep R (read d)) d ok (test_passed 1 _ [] (ap not open_day) none_left)
          ∙ moved (keep R (read d)) (by_keep e)

      module _ (beyond : no_more tolerance R ≡ false) where
        pub revise_11 : negative (map whole us) ≡ true → outcome (refused 11) d ≡ called (revise tolerance) d
        unfolding read
        revise_11 n =
            called_refused (λ (x : Day). assign R (read d)) d 11 ok
            (test_passed 1 _ _ (ap not open_day) (test_holds 11 _ _ n))
            ∙ moved (assign R (read d)) (by_assign beyond)

        module _ (n : negative (map whole us) ≡ false) where
          pub revise_12 : any_large (zip_with ◌+ℤ◌ (map whole us) (zs R)) ≡ true → outcome (refused 12) d ≡ called (revise tolerance) d
          unfolding read
          revise_12 l =
              called_refused (λ (x : Day). assign R (read d)) d 12 ok
              (test_passed 1 _ _ (ap not open_day) (test_passed 11 _ _ n (test_holds 12 _ _ (wholes_after R ∙ l))))
              ∙ moved (assign R (read d)) (by_assign beyond)

          pub revise_done : any_large (zip_with ◌+ℤ◌ (map whole us) (zs R)) ≡ false → {x : ℤ} {column : List ℤ} → x ≡ R → column ≡ zip_with ◌+ℤ◌ d.revision (padded USERS (pos 0) (zs R))
              → outcome (revision_assigned x) (set_revision column d) ≡ called (revise tolerance) d
          unfolding read
          revise_done l r q =
              ap₂ (λ x rs. outcome (revision_assigned x) (set_revision rs d)) r q
              ∙ ap (outcome (revision_assigned R)) (sym (laid_assigned R))
              ∙ called_accepted (λ (x : Day). assign R (read d)) d ok
              (test_passed 1 _ _ (ap not open_day) (test_passed 11 _ _ n (test_passed 12 _ _ (wholes_after R ∙ l) none_left)))
              ∙ moved (assign R (read d)) (by_assign beyond)
