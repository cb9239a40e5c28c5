-- Stand-in: each outcome of the call. Assumes nothing.
use mathlib.Core.Path.{◌≡◌, refl, sym, ap, ap₂, ◌∙◌}
use mathlib.Core.Bool.{Bool, true, false, not}
use mathlib.Core.List.{List, [], ◌∷◌, ◌++◌, map}
use Prim.Native.Nat.{ℕ, suc, ◌+◌, ◌*◌, ◌≤◌, ◌<◌}
use native.Mathlib.Omega.{arith}
use lib.Dec.{leb, eqb, lit<}
use lib.IntN.{ℤ, pos, nat_abs}
use lib.ListN.{length, get_or, take, drop, replicate, length-map}
use mir.Syntax.{w64}
use mir.Val.{of_z, to_z}
use borrow.Author.Tests.{leb-true, eqb-true, ne_eqb}
use Rattle.numbers.specs.Sums.{atZ, totalZ}
use Rattle.numbers.specs.Lists.{both, either, every, rising}
use Rattle.numbers.specs.Amounts.{SAFE, Within}
use Rattle.numbers.proofs.Sums.{length_table, totalZ_sum}
use Rattle.numbers.proofs.Amounts.{back, widen, within_sum}
use Rattle.numbers.proofs.Lists.{all_every, all_map, both_snd}
use Rattle.proration.specs.Proration.{prorateZ}
use Rattle.proration.proofs.Signs.{lengthZ}
use Rattle.point_day.specs.Limits.{USERS, ROWS, AMOUNT}
use Rattle.point_day.specs.Day.{is_measured, net, net_of, some, no_more, is_number, too_large, provisional}
use Rattle.point_day.specs.Calls.{Answer, refused, rows_looked_at, Test, Verdict, refuse, accept, verdict, ◌when◌, Pair, users_of, amounts_of, row_right, nearest_filled, negative, at_most, opened, stand_in, allotted_with}
use Rattle.point_day.specs.Struct.{Sized, read, padded, laid, taken, pair_at, row_at, rows_of, outcome, called}
use Rattle.point_day.specs.declared.PointDay.{PointDay}
use Rattle.point_day.specs.declared.StandInRows.{StandInRows}
use Rattle.point_day.proofs.Taken.{taken_facts}
use Rattle.point_day.proofs.Back.{read_count}
use Rattle.point_day.proofs.Each.{some_length}
use Rattle.point_day.proofs.Called.{called_refused, called_accepted, test_holds, test_passed, none_left}
use Rattle.point_day.proofs.Settling.{Row, row_is, row_used as right-used}
use Rattle.columns.proofs.Padding.{padded_over, all_within}
use Rattle.taken.specs.Tested.{any_large}
use Rattle.stand_in.proofs.rows.Rows.{row_users, row_amounts, rows_long, row_used, rows_passed, row_filled}
use Rattle.stand_in.specs.Openings.{row_users as users_in, Usable, row_tests, row_shares, RowTested, opened_with}
use Rattle.stand_in.proofs.opening.Opening.{large_is, laid_opened}

some_is : {A : Type 0} (xs : List A) → some xs ≡ not (eqb (length xs) 0)
some_is [] = refl
some_is (x ∷ xs) = sym (ap not (ne_eqb (suc (length xs)) 0 (λ e. omega arith)))

module _ (d : PointDay) (z : Sized d) (ok : taken d ≡ true) (rs : StandInRows) (tolerance : ℕ) where
  -- ---- the tests, in the code's words

  stage_test : either (not (provisional d.stage)) (either d.allotted (some (read d).users)) ≡ not (both (provisional d.stage) (both (not d.allotted) (eqb d.count 0)))
  stage_test =
      ap (λ b. either (not (provisional d.stage)) (either d.allotted b)) (some_is (read d).users ∙ ap (λ k. not (eqb k 0)) (read_count d z (taken_facts d ok)))
      ∙ go (provisional d.stage) d.allotted (eqb d.count 0)
    where
      go : (a b c : Bool) → either (not a) (either b (not c)) ≡ not (both a (both (not b) c))
      go true true c = refl
      go true false c = refl
      go false b c = refl

  rows_test : not (both (eqb (length (rows_of rs)) ROWS) (every row_right (rows_of rs))) ≡ not (every row_right (rows_of rs))
  rows_test = ap (λ k. not (both (eqb k ROWS) (every row_right (rows_of rs)))) (rows_long rs)

  nobody : both (provisional d.stage) (both (not d.allotted) (eqb d.count 0)) ≡ true → d.count ≡ 0
  nobody h = eqb-true d.count 0 (both_snd (not d.allotted) _ (both_snd (provisional d.stage) _ h))

  pub stand_in_1 : both (provisional d.stage) (both (not d.allotted) (eqb d.count 0)) ≡ false → outcome (refused 1) d ≡ called (stand_in tolerance (rows_of rs)) d
  unfolding stand_in read
  stand_in_1 h = called_refused (stand_in tolerance (rows_of rs)) d 1 ok (test_holds 1 _ _ (stage_test ∙ ap not h))

  module _ (open_day : both (provisional d.stage) (both (not d.allotted) (eqb d.count 0)) ≡ true) where
    pub stand_in_2 : every row_right (rows_of rs) ≡ false → outcome (refused 2) d ≡ called (stand_in tolerance (rows_of rs)) d
    unfolding stand_in read
    stand_in_2 h =
        called_refused (stand_in tolerance (rows_of rs)) d 2 ok
        (test_passed 1 _ _ (stage_test ∙ ap not open_day) (test_holds 2 _ _ (rows_test ∙ ap not h)))

    module _ (right : every row_right (rows_of rs) ≡ true) where
      pub stand_in_7 : is_measured d.measurement ≡ false → outcome (refused 7) d ≡ called (stand_in tolerance (rows_of rs)) d
      unfolding stand_in read
      stand_in_7 h =
          called_refused (stand_in tolerance (rows_of rs)) d 7 ok
          (test_passed 1 _ _ (stage_test ∙ ap not open_day) (test_passed 2 _ _ (rows_test ∙ ap not right) (test_holds 7 _ _ (ap not h))))

      module _ (measured : is_measured d.measurement ≡ true) (n : ℕ) (e : pos n ≡ net_of d.measurement) where
        pub stand_in_9 : leb n tolerance ≡ true → outcome (refused 9) d ≡ called (stand_in tolerance (rows_of rs)) d
        unfolding stand_in read
        stand_in_9 h =
            called_refused (stand_in tolerance (rows_of rs)) d 9 ok
            (test_passed 1 _ _ (stage_test ∙ ap not open_day) (test_passed 2 _ _ (rows_test ∙ ap not right) (test_passed 7 _ _ (ap not measured)
            (test_holds 9 _ _ (sym (ap (at_most tolerance) e) ∙ h)))))

        module _ (beyond : leb n tolerance ≡ false) where
          later : {v : Verdict} (ts : List Test) → verdict ts ≡ v
              → verdict ((1 when either (not (provisional d.stage)) (either d.allotted (some (read d).users)))
              ∷ (2 when not (both (eqb (length (rows_of rs)) ROWS) (every row_right (rows_of rs))))
              ∷ (7 when not (is_measured d.measurement))
              ∷ (9 when at_most tolerance (net_of d.measurement))
              ∷ ts) ≡ v
          later ts q =
              test_passed 1 _ _ (stage_test ∙ ap not open_day) (test_passed 2 _ _ (rows_test ∙ ap not right) (test_passed 7 _ _ (ap not measured)
              (test_passed 9 _ _ (sym (ap (at_most tolerance) e) ∙ beyond) q)))

          pub stand_in_10 : nearest_filled (rows_of rs) ≡ [] → outcome (refused 10) d ≡ called (stand_in tolerance (rows_of rs)) d
          unfolding stand_in read
          stand_in_10 h = called_refused (stand_in tolerance (rows_of rs)) d 10 ok (later _ (test_holds 10 _ _ (ap (λ ps. not (some ps)) h)))

          module _ (r : ℕ) (u : Usable rs n r) where
            -- the pairs of the row
            abbrev pairs : List Pair
            pairs = row_at rs r

            last_tests : {v : Verdict} → verdict (row_tests (pos n) pairs) ≡ v → verdict (stand_in tolerance (rows_of rs) (read d)).tests ≡ v
            unfolding stand_in read
            last_tests q =
                later _ (test_passed 10 _ _ (ap not (row_filled rs r u.nearest u.found))
                (ap₂ (λ x ps. verdict (row_tests x ps)) (sym e) (row_used rs r u.nearest u.found) ∙ q))

            pub stand_in_row : (k : ℕ) → verdict (row_tests (pos n) pairs) ≡ refuse k → outcome (refused k) d ≡ called (stand_in tolerance (rows_of rs)) d
            stand_in_row k h = called_refused (stand_in tolerance (rows_of rs)) d k ok (last_tests h)

            after_is : length (users_of pairs) ≤ USERS → laid (stand_in tolerance (rows_of rs) (read d)).after ≡ opened_with (users_of pairs) (row_shares (pos n) pairs) d
            unfolding stand_in
            after_is few =
                ap₂ (λ x qs. laid (allotted_with (opened x qs) (read d))) (net_read ∙ sym e) (row_used rs r u.nearest u.found)
                ∙ laid_opened (pos n) pairs d z ok (nobody open_day) (omega (arith, length-map pairs (λ (p : Pair). p.user)))
              where
                net_read : net (read d) ≡ net_of d.measurement
                net_read = unfold read in refl

            answer_is : (stand_in tolerance (rows_of rs) (read d)).answer ≡ rows_looked_at (r + 1)
            unfolding stand_in
            answer_is = ap rows_looked_at (rows_passed rs r u.nearest u.found)

            pub stand_in_done : verdict (row_tests (pos n) pairs) ≡ accept → (us : List ℕ) → users_of pairs ≡ us → length us ≤ USERS
                → outcome (rows_looked_at (r + 1)) (opened_with us (row_shares (pos n) pairs) d) ≡ called (stand_in tolerance (rows_of rs)) d
            stand_in_done h us q few =
                ap₂ (λ (a : Answer) (x : PointDay). outcome a x) (sym answer_is)
                (ap (λ ns. opened_with ns (row_shares (pos n) pairs) d) (sym q) ∙ sym (after_is (omega (arith, ap length q))))
                ∙ called_accepted (stand_in tolerance (rows_of rs)) d ok (last_tests h)

-- ---- the row that is used

module _ (rs : StandInRows) (n r : ℕ) (u : Usable rs n r) (ul : length rs.users ≡ USERS * ROWS) (zl : length rs.amounts ≡ USERS * ROWS) where
  abbrev ps : List Pair
  ps = row_at rs r

  abbrev count : ℕ
  count = get_or rs.counts r 0

  abbrev pub us : List ℕ
  us = take count (drop (USERS * r) rs.users)

  abbrev pub zs : List ℤ
  zs = take count (drop (USERS * r) rs.amounts)

  row_long : length ps ≡ count
  row_long = length_table (pair_at rs r) count

  row_ok : row_right ps ≡ true
  row_ok =
      sym (ap row_right (row_used rs r u.nearest u.found))
      ∙ right-used (rows_of rs) u.right (row_filled rs r u.nearest u.found)

  row : Row ps
  row = row_is ps row_ok

  pub count_few : count ≤ USERS
  count_few = omega (arith, row_long, row.few)

  are_users : users_of ps ≡ us
  are_users = row_users rs ul zl r u.found count_few

  are_amounts : amounts_of ps ≡ zs
  are_amounts = row_amounts rs ul zl r u.found count_few

  -- the user numbers of the row, as the effect names them
  pub named_users : users_of ps ≡ users_in rs.counts rs.users r
  named_users = are_users

  pub named_few : length (users_in rs.counts rs.users r) ≤ USERS
  named_few = omega (arith, ap length named_users, length-map ps (λ (p : Pair). p.user), row.few)

  pub users_few : length us ≤ USERS
  users_few = omega (arith, ap length are_users, length-map ps (λ (p : Pair). p.user), row.few)

  pub users_some : 0 < length us
  users_some =
      omega (
        arith,
        ap length are_users,
        length-map ps (λ (p : Pair). p.user),
        some_length ps (ap some (sym (row_used rs r u.nearest u.found)) ∙ row_filled rs r u.nearest u.found),
      )

  pub same_long : length zs ≡ length us
  same_long = sym (ap length are_amounts) ∙ length-map ps (λ (p : Pair). p.amount) ∙ sym (length-map ps (λ (p : Pair). p.user)) ∙ ap length are_users

  pub amounts_small : (i : ℕ) → Within AMOUNT (atZ zs i)
  amounts_small i =
      rw (← are_amounts)
      (all_within AMOUNT (amounts_of ps)
      (all_map (λ x. no_more AMOUNT x ≡ true) _ (λ x h. leb-true (nat_abs x) AMOUNT h) (amounts_of ps)
      (all_every (no_more AMOUNT) (amounts_of ps)
      (both_snd (rising (users_of ps)) _ (both_snd (every is_number (users_of ps)) _ (both_snd (leb (length ps) USERS) _ row_ok))))) i)

  -- the sum of its amounts, also as the code holds it
  pub sum_safe : Within SAFE (totalZ zs)
  sum_safe = rw (totalZ_sum zs) (widen (within_sum AMOUNT (atZ zs) amounts_small (length zs)) (omega (arith, same_long, users_few)))

  pub sum_kept : {x : ℤ} → x ≡ totalZ zs → to_z w64 (of_z w64 x) ≡ totalZ zs
  sum_kept e = rw e (back sum_safe (lit< tt))

  -- ---- its tests

  pub row_negative : negative zs ≡ true → (column : List ℤ) → RowTested (pos n) ps 11 column
  row_negative h column = record {
    passed = λ e. absurd (omega arith);
    shares = λ e. absurd (omega arith);
    failed = λ e. test_holds 11 _ _ (ap negative are_amounts ∙ h);
  }

  module _ (above : negative zs ≡ false) (before column : List ℤ) (zeros : before ≡ replicate USERS (pos 0)) (shared : column ≡ prorateZ (pos n) (map nat_abs zs) us ++ drop (length us) before) where
    column_is : column ≡ row_shares (pos n) ps
    column_is =
        padded_over (pos 0) USERS (length us) (prorateZ (pos n) (map nat_abs zs) us)
        (lengthZ (pos n) (map nat_abs zs) us ∙ length-map zs nat_abs ∙ same_long) zeros shared
        ∙ sym (ap₂ (λ a b. padded USERS (pos 0) (prorateZ (pos n) (map nat_abs b) a)) are_users are_amounts)

    large : any_large column ≡ too_large (opened (pos n) ps)
    large = ap any_large column_is ∙ sym (large_is (pos n) ps)

    pub row_large : any_large column ≡ true → RowTested (pos n) ps 12 column
    row_large h = record {
      passed = λ e. absurd (omega arith);
      shares = λ e. absurd (omega arith);
      failed = λ e. test_passed 11 _ _ (ap negative are_amounts ∙ above) (test_holds 12 _ _ (sym large ∙ h));
    }

    pub row_passes : any_large column ≡ false → RowTested (pos n) ps 0 column
    row_passes h = record {
      passed = λ e. test_passed 11 _ _ (ap negative are_amounts ∙ above) (test_passed 12 _ _ (sym large ∙ h) none_left);
      shares = λ e. column_is;
      failed = λ e. absurd (e refl);
    }
