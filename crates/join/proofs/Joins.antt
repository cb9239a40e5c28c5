-- Join: a user appended is the layout of the day after it, and each outcome of the call. Assumes nothing.
use mathlib.Core.Path.{◌≡◌, refl, sym, ap, ◌∙◌}
use mathlib.Core.Bool.{true, false, not}
use mathlib.Core.List.{List, [], ◌∷◌, ◌++◌, map}
use Prim.Native.Nat.{ℕ, suc, ◌≤◌, ◌<◌}
use native.Mathlib.Omega.{arith}
use lib.Dec.{leb}
use lib.IntN.{pos}
use lib.ListN.{length, take, set, replicate, length-append, length-map}
use borrow.Author.Tests.{le-leb, lt-leb}
use Rattle.numbers.specs.Lists.{has, flat}
use Rattle.numbers.proofs.Lists.{All, all_map, map_append, both_true}
use Rattle.point_day.specs.Fields.{same_fields}
use Rattle.point_day.specs.Limits.{USERS, CELLS, LAST_NUMBER}
use Rattle.point_day.specs.Day.{User, Day, empty_user, numbers, is_number}
use Rattle.point_day.specs.Calls.{refused, done, verdict, with_users, join}
use Rattle.point_day.specs.Struct.{Sized, read, padded, laid, taken, outcome, called}
use Rattle.point_day.specs.declared.PointDay.{PointDay}
use Rattle.point_day.proofs.Taken.{taken_facts}
use Rattle.point_day.proofs.Arrays.{Full, length_flat}
use Rattle.point_day.proofs.Back.{flat_snoc, read_full, read_count, read_numbers, laid_read}
use Rattle.point_day.proofs.Called.{called_refused, called_accepted, test_holds, test_passed, none_left}
use Rattle.join.specs.Appended.{appended, Joins, Tested}
use Rattle.point_day.proofs.Padding.{padded_snoc, padded_same}

-- ---- the day after join

module _ (n : ℕ) (D : Day) (full : All Full D.users) (l : length D.users < USERS) where
  more : {A : Type 0} (x : A) (f : User → List A) → f (empty_user n) ≡ replicate 5 x → All (λ u. length (f u) ≡ 5) D.users
      → padded CELLS x (flat (map f (D.users ++ (empty_user n ∷ [])))) ≡ padded CELLS x (flat (map f D.users))
  more x f e h =
      ap (λ t. padded CELLS x (flat t)) (map_append f D.users (empty_user n ∷ []))
      ∙ ap (padded CELLS x) (flat_snoc (map f D.users) (f (empty_user n)))
      ∙ ap (λ t. padded CELLS x (flat (map f D.users) ++ t)) e
      ∙ padded_same x CELLS 5 (flat (map f D.users)) (omega (arith, length_flat f D.users h))

  laid_join : laid (with_users (D.users ++ (empty_user n ∷ [])) D) ≡ appended n (laid D)
  unfolding laid
  laid_join = same_fields (record {
    stage = refl;
    allotted = refl;
    measurement = refl;
    count = length-append D.users (empty_user n ∷ []);
    users = names;
    consumption = more (pos 0) (λ u. map pos u.consumption) refl (all_map Full _ (λ u h. length-map u.consumption pos ∙ h.consumption) D.users full);
    losses = more (pos 0) (λ u. map pos u.losses) refl (all_map Full _ (λ u h. length-map u.losses pos ∙ h.losses) D.users full);
    balance = more (pos 0) (λ (u : User). u.balance) refl (all_map Full _ (λ u h. h.balance) D.users full);
    revision = revisions;
  })
    where
      names : padded USERS 0 (numbers (D.users ++ (empty_user n ∷ []))) ≡ set (padded USERS 0 (numbers D.users)) (length D.users) n
      names =
          ap (padded USERS 0) (map_append (λ (u : User). u.number) D.users (empty_user n ∷ []))
          ∙ padded_snoc 0 n USERS (length D.users) (numbers D.users) (length-map D.users _) l

      revisions : padded USERS (pos 0) (map (λ (u : User). u.revision) (D.users ++ (empty_user n ∷ []))) ≡ padded USERS (pos 0) (map (λ (u : User). u.revision) D.users)
      revisions =
          ap (padded USERS (pos 0)) (map_append (λ (u : User). u.revision) D.users (empty_user n ∷ []))
          ∙ padded_same (pos 0) USERS 1 (map (λ (u : User). u.revision) D.users) (omega (arith, length-map D.users (λ (u : User). u.revision)))

-- ---- the outcomes

module _ (n : ℕ) (d : PointDay) (z : Sized d) (ok : taken d ≡ true) where
  join_after : d.count < USERS → appended n d ≡ laid (join n (read d)).after
  unfolding join
  join_after l =
      let t = taken_facts d ok in
      sym (laid_join n (read d) (read_full d z t) (omega (arith, read_count d z t)) ∙ ap (appended n) (laid_read d z t))

  -- the tests, on the arrays
  join_tests : verdict (join n (read d)).tests
      ≡ verdict
      (record { number = 1; holds = d.allotted }
      ∷ record { number = 2; holds = not (is_number n) }
      ∷ record { number = 4; holds = has n (take d.count d.users) }
      ∷ record { number = 5; holds = leb USERS d.count }
      ∷ [])
  unfolding join
  join_tests = rw (read_numbers d z (taken_facts d ok), read_count d z (taken_facts d ok)) (unfold read in refl)

  pub join_1 : d.allotted ≡ true → outcome (refused 1) d ≡ called (join n) d
  join_1 e = called_refused (join n) d 1 ok (join_tests ∙ test_holds 1 d.allotted _ e)

  pub join_2 : d.allotted ≡ false → n ≡ 0 → outcome (refused 2) d ≡ called (join n) d
  join_2 e h = called_refused (join n) d 2 ok (join_tests ∙ test_passed 1 d.allotted _ e (test_holds 2 (not (is_number n)) _ (ap (λ m. not (is_number m)) h)))

  module _ (e : d.allotted ≡ false) (h : n ≡ 0 → ⊥) (l : n ≤ LAST_NUMBER) where
    named : not (is_number n) ≡ false
    named = ap not (both_true (le-leb 1 n (omega arith)) (le-leb n LAST_NUMBER l))

    pub join_4 : has n (take d.count d.users) ≡ true → outcome (refused 4) d ≡ called (join n) d
    join_4 f = called_refused (join n) d 4 ok (join_tests ∙ test_passed 1 d.allotted _ e (test_passed 2 (not (is_number n)) _ named (test_holds 4 (has n (take d.count d.users)) _ f)))

    module _ (f : has n (take d.count d.users) ≡ false) where
      pub join_5 : USERS ≤ d.count → outcome (refused 5) d ≡ called (join n) d
      join_5 k =
          called_refused (join n) d 5 ok
          (join_tests ∙ test_passed 1 d.allotted _ e (test_passed 2 (not (is_number n)) _ named (test_passed 4 (has n (take d.count d.users)) _ f (test_holds 5 (leb USERS d.count) [] (le-leb USERS d.count k)))))

      pub join_done : {r : PointDay} → d.count < USERS → r ≡ appended n d → outcome done r ≡ called (join n) d
      unfolding join
      join_done {r} k q =
          ap (λ (x : PointDay). outcome done x) (q ∙ join_after k)
          ∙ called_accepted (join n) d ok
          (join_tests ∙ test_passed 1 d.allotted _ e (test_passed 2 (not (is_number n)) _ named (test_passed 4 (has n (take d.count d.users)) _ f (test_passed 5 (leb USERS d.count) [] (lt-leb USERS d.count k) none_left))))

-- ---- the code's tests

pub fails : (n : ℕ) (d : PointDay) (r : ℕ) → outcome (refused (suc r)) d ≡ called (join n) d → Tested n d (suc r)
fails n d r o = record { passed = λ e. absurd (omega arith); failed = λ h. o }

pub passes : (n : ℕ) (d : PointDay) → Joins n d → Tested n d 0
passes n d j = record { passed = λ e. j; failed = λ h. absurd (h refl) }
