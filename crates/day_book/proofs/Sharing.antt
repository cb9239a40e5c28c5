-- Allot, stand-in and revise: the book's rows and shares against the tables of the calls. Assumes nothing.
use mathlib.Core.Path.{◌≡◌, refl, sym, ap, ap₂, ◌∙◌, subst, subst⁻¹}
use mathlib.Core.Bool.{Bool, true, false, not}
use mathlib.Core.List.{List, [], ◌∷◌, ◌++◌, map, zip_with}
use Prim.Native.Nat.{ℕ, suc}
use lib.Dec.{leb, eqb, eqb-suc-zero, leb-zero}
use lib.IntN.{ℤ, pos, negsuc, nat_abs, ◌-ℤ◌, +ℤ_idl}
use lib.ListN.{length, length-map}
use lib.Signed.{le_z}
use borrow.Author.Tests.{not-false}
use Rattle.numbers.specs.Sums.{pick, total}
use Rattle.numbers.specs.Lists.{both, either, every, has, distinct, rising}
use Rattle.numbers.proofs.Lists.{All, never, true≢false, both_snd, either_fst, either_snd, map_map, map_eq, either_none}
use Rattle.proration.specs.Proration.{prorateZ}
use Rattle.point_day.specs.Limits.{USERS, AMOUNT, ROWS, TOLERANCE}
use Rattle.point_day.specs.Day as day
use Rattle.point_day.specs.Day.{Day, with_balance, empty_user, numbers, is_measured, some, no_more, is_number, too_large, provisional}
use Rattle.point_day.specs.Calls as calls
use Rattle.point_day.specs.Calls.{Verdict, refuse, accept, verdict, with_users, allotted_with, by_basis, none_in_2_to_5}
use Rattle.point_day.specs.Calls.{or_kind_1, user_shares, with_share, balanced, Pair, users_of, amounts_of, row_right, nearest_filled}
use Rattle.point_day.specs.Calls.{looked_at, negative, opened, at_most, keep, assign, revise_by}
use Rattle.point_day.specs.declared.Stage.{Stage}
use Rattle.point_day.specs.declared.Stage.TheVariants.{Provisional, FinalProvisional, FinalDefinitive}
use Rattle.point_day.specs.declared.Measurement.{Measurement}
use Rattle.point_day.proofs.Wholes.{small_right}
use Rattle.point_day.proofs.Good.{accepted}
use Rattle.point_day.proofs.Settling.{row_used, row_is}
use Rattle.day_book.specs.Run.{allot, stand_in, revise, move}
use Rattle.day_book.specs.Book.{Book, kinds, net, whole, R, beside, part, to_balance, user_weight, kind_weight, user_share}
use Rattle.day_book.specs.Book.{allotted, users_in, amounts_in, is_empty, empty_before, used_row, rows_looked, row_weight}
use Rattle.day_book.specs.Book.{stood_in, tolerated, assigned, revised, is_provisional, takes, pair_right}
use Rattle.day_book.specs.Book.{row_in_range}
use Rattle.day_book.specs.Book.{unmeasured, no_user, some_negative, some_too_large, refusals, book_verdict}
use Rattle.day_book.specs.Book.{values}
use Rattle.day_book.specs.Described.{user_of, day_of}
use Rattle.day_book.proofs.Keeps.{day_R, same_R, revise_allotted}
use Rattle.day_book.proofs.Parties.{beside_all, parts_all, zip_parts}
use Rattle.day_book.proofs.Figures.{in_size, every_eq, negative_is, some_is, numbers_is, of_each, whole_is, wholes_are, too_large_is}
use Rattle.day_book.proofs.Figures.{user_weight_is, kind_weights_are, net_day, balance_is}
use Rattle.day_book.proofs.Lines.{newcomer_empty}
use Rattle.day_book.proofs.Entering.{entering_row}
use Rattle.day_book.proofs.Agreeing.{Kept, users_apart, measured_right, Agree, row}
use Rattle.std.specs.Prelude.{Option, None, Some}

unmeasured_is : (m : Option Measurement) → unmeasured m ≡ not (is_measured m)
unmeasured_is None = refl
unmeasured_is (Some m) = refl

no_user_is : (b : Book) → not (no_user b) ≡ some (day_of b).users
unfolding day_of
no_user_is b = ap (λ n. not (eqb n 0)) (sym (length-map b.users (user_of b))) ∙ sym (some_is (map (user_of b) b.users))

not_not : (p : Bool) → not (not p) ≡ p
not_not true = refl
not_not false = refl

-- ---- allot

pub five_apart : distinct kinds ≡ true
unfolding distinct has
five_apart = refl

module _ (b : Book) (h : Kept b) where
  abbrev all : Bool
  all = none_in_2_to_5 (day_of b).users

  shares_are : user_shares (day_of b) ≡ prorateZ (to_balance b) (map (user_weight b) b.users) b.users
  shares_are =
      ap (λ z. prorateZ z (map (λ u. total (by_basis all u)) (day_of b).users) (numbers (day_of b).users))
      (balance_is b (measured_right b h))
      ∙ ap₂ (prorateZ (to_balance b)) (of_each b (λ u. total (by_basis all u)) (user_weight b) (user_weight_is b)) (numbers_is b)

  kinds_are : (n : ℕ) (z : ℤ) → prorateZ z (or_kind_1 (by_basis all (user_of b n))) calls.kinds ≡ map (part z (kind_weight b n) kinds) kinds
  kinds_are n z = ap (λ ws. prorateZ z ws kinds) (kind_weights_are b n) ∙ sym (parts_all z (kind_weight b n) kinds five_apart)

  balanced_is : balanced (day_of b) ≡ map (user_of (allotted b)) b.users
  unfolding balanced allotted day_of
  balanced_is =
      ap (zip_with (with_share all) (map (user_of b) b.users)) shares_are
      ∙ zip_parts (to_balance b) (user_weight b) b.users (with_share all) (user_of b) (users_apart b h)
      ∙ map_eq _ _ (λ n. ap (λ zs. with_balance zs (user_of b n)) (kinds_are n (user_share b n))) b.users

  allot_day : day_of (allotted b) ≡ (calls.allot (day_of b)).after
  unfolding calls.allot day_of allotted
  allot_day = ap (λ us. allotted_with us (day_of b)) (sym balanced_is)

  allot_rows : book_verdict allot b ≡ verdict (calls.allot (day_of b)).tests
  unfolding verdict refusals day_of calls.allot
  allot_rows =
      row 1 (entering_row b.allotted) (λ p. row 7 (either_none (unmeasured b.measurement) ∙ unmeasured_is b.measurement) (λ q.
      row 8 (sym (not_not (no_user b)) ∙ ap not (no_user_is b)) (λ r.
      row 12 (sym (too_large_is (allotted b)) ∙ ap (λ (d : Day). too_large d.users) allot_day) (λ s. refl))))

  pub allot_agrees : Agree allot b
  allot_agrees = record { verdicts = allot_rows; days = λ v. allot_day; answers = λ v. unfold calls.allot in refl }

-- ---- stand-in: the rows

filled : (p : Pair) (ps : List Pair) → is_empty (p ∷ ps) ≡ false
filled p ps = eqb-suc-zero (length ps)

pub used_is : (rows : List (List Pair)) → used_row rows ≡ nearest_filled rows
unfolding used_row empty_before nearest_filled
used_is [] = refl
used_is ([] ∷ rows) = used_is rows
used_is ((p ∷ ps) ∷ rows) = rw (filled p ps)

looked_is : (rows : List (List Pair)) → some (nearest_filled rows) ≡ true → rows_looked rows ≡ looked_at rows
unfolding rows_looked empty_before looked_at nearest_filled
looked_is [] e = never e
looked_is ([] ∷ rows) e = ap suc (looked_is rows e)
looked_is ((p ∷ ps) ∷ rows) e = rw (filled p ps)

no_pair_is : (rows : List (List Pair)) → every is_empty rows ≡ not (some (nearest_filled rows))
unfolding every nearest_filled
no_pair_is [] = refl
no_pair_is ([] ∷ rows) = no_pair_is rows
no_pair_is ((p ∷ ps) ∷ rows) = rw (filled p ps)

both_swap : (p q r s : Bool) → both (both p q) (both r s) ≡ both (both p r) (both q s)
both_swap true true r s = refl
both_swap true false true s = refl
both_swap true false false s = refl
both_swap false q r s = refl

pairs_are : (ps : List Pair) → every pair_right ps ≡ both (every is_number (users_of ps)) (every (no_more AMOUNT) (amounts_of ps))
unfolding every
pairs_are [] = refl
pairs_are (p ∷ ps) =
    ap₂ both (ap (both (is_number p.user)) (in_size 1999999999 p.amount)) (pairs_are ps)
    ∙ both_swap (is_number p.user) (no_more AMOUNT p.amount) (every is_number (users_of ps)) (every (no_more AMOUNT) (amounts_of ps))

both_turn : (p q r : Bool) → both (both p q) r ≡ both p (both r q)
both_turn true true true = refl
both_turn true true false = refl
both_turn true false true = refl
both_turn true false false = refl
both_turn false q r = refl

range_is : (ps : List Pair) → row_in_range ps ≡ row_right ps
unfolding row_in_range
range_is ps =
    ap₂ both (ap (λ p. both p (leb (length ps) USERS)) (leb-zero (length ps)))
    (ap (λ p. both p (rising (users_of ps))) (pairs_are ps)
    ∙ both_turn (every is_number (users_of ps)) (every (no_more AMOUNT) (amounts_of ps)) (rising (users_of ps)))

stand_in_stage : (s : Stage) (p q : Bool) → either (not (both (is_provisional s) (not p))) q ≡ either (not (provisional s)) (either p q)
stand_in_stage Provisional true q = refl
stand_in_stage Provisional false q = refl
stand_in_stage FinalProvisional p q = refl
stand_in_stage FinalDefinitive p q = refl

at_most_is : (t : ℕ) (z : ℤ) → le_z z (pos t) ≡ at_most t z
at_most_is t (pos n) = refl
at_most_is t (negsuc n) = refl

-- ---- stand-in: the day

module _ (ps : List Pair) (apart : distinct (users_in ps) ≡ true) where
  row_weights : map (row_weight ps) (users_in ps) ≡ map nat_abs (amounts_in ps)
  row_weights =
      sym (map_map nat_abs (beside (users_in ps) (amounts_in ps)) (users_in ps))
      ∙ ap (map nat_abs) (beside_all (users_in ps) (amounts_in ps) apart (length-map ps _ ∙ sym (length-map ps _)))

  opened_is : (z : ℤ) → opened z ps ≡ map (λ n. calls.revised (empty_user n) (part z (row_weight ps) (users_in ps) n)) (users_in ps)
  unfolding opened
  opened_is z =
      ap₂ (λ us ws. zip_with calls.revised us (prorateZ z ws (users_in ps)))
      (sym (map_map empty_user (λ (p : Pair). p.user) ps)) (sym row_weights)
      ∙ zip_parts z (row_weight ps) (users_in ps) calls.revised empty_user apart

nobody_is : (b : Book) → some (day_of b).users ≡ false → b.users ≡ []
unfolding day_of
nobody_is b = go b.users
  where
    go : (ns : List ℕ) → some (map (user_of b) ns) ≡ false → ns ≡ []
    go [] e = refl
    go (n ∷ ns) e = true≢false e

module _ (rows : List (List Pair)) (b : Book) (h : Kept b) where
  abbrev ps : List Pair
  ps = used_row rows

  -- a newcomer
  stood : b.allotted ≡ false → b.users ≡ [] → (n : ℕ)
      → calls.revised (empty_user n) (part (net b) (row_weight ps) (users_in ps) n) ≡ user_of (stood_in rows b) n
  unfolding stood_in
  stood e alone n =
      let z = part (net b) (row_weight ps) (users_in ps) n in
      let k = h.bare e n in
      let named = subst (λ ns. All (λ l. has l.user ns ≡ true) b.lines) alone h.named in
      let new = sym (newcomer_empty b n [] (unfold has in refl) named k.0 k.1) in
      λ i. record { number = n; consumption = (new i).consumption; losses = (new i).losses; balance = (new i).balance; revision = +ℤ_idl z i }

  -- what has passed before row 12
  record Open : Type 0 where
    entering : b.allotted ≡ false
    alone : b.users ≡ []
    apart : distinct (users_in ps) ≡ true
    found : some (nearest_filled rows) ≡ true

  opens : either (not (provisional b.stage)) (either b.allotted (some (day_of b).users)) ≡ false
      → not (both (eqb (length rows) ROWS) (every row_right rows)) ≡ false → not (some (nearest_filled rows)) ≡ false → Open
  opens p q t =
      let open_day = either_snd (not (provisional b.stage)) _ p in
      let right = both_snd (eqb (length rows) ROWS) _ (not-false _ q) in
      record {
        entering = either_fst b.allotted _ open_day;
        alone = nobody_is b (either_snd b.allotted _ open_day);
        apart =
            subst⁻¹ (λ ps. distinct (users_in ps) ≡ true) (used_is rows)
            (row_is (nearest_filled rows) (row_used rows right (not-false _ t))).apart;
        found = not-false _ t;
      }

  opens_accepted : verdict (calls.stand_in TOLERANCE rows (day_of b)).tests ≡ accept → Open
  opens_accepted v =
      unfold calls.stand_in day_of in
      let p = accepted (calls.stand_in TOLERANCE rows (day_of b)).tests v in
      opens p.0 p.1.0 p.1.1.1.1.0

  stand_in_day : Open → day_of (stood_in rows b) ≡ (calls.stand_in TOLERANCE rows (day_of b)).after
  unfolding calls.stand_in stood_in day_of
  stand_in_day o =
      ap (λ us. allotted_with us (day_of b))
      (ap (λ ns. map (user_of (stood_in rows b)) (ns ++ users_in ps)) o.alone
      ∙ sym (map_eq _ _ (stood o.entering o.alone) (users_in ps))
      ∙ sym (opened_is ps o.apart (net b))
      ∙ ap₂ opened (sym (net_day b (measured_right b h))) (used_is rows))

  stand_in_rows : book_verdict (stand_in rows) b ≡ verdict (calls.stand_in TOLERANCE rows (day_of b)).tests
  unfolding verdict refusals day_of calls.stand_in
  stand_in_rows =
      row 1 (ap (either (not (takes (stand_in rows) b.stage b.allotted))) (no_user_is b)
      ∙ stand_in_stage b.stage b.allotted (some (day_of b).users)) (λ p.
      row 2 (ap (λ q. not (both (eqb (length rows) ROWS) q)) (every_eq row_in_range row_right range_is rows)) (λ q.
      row 7 (unmeasured_is b.measurement) (λ r.
      row 9 (at_most_is TOLERANCE (net b) ∙ ap (at_most TOLERANCE) (sym (net_day b (measured_right b h)))) (λ s.
      row 10 (no_pair_is rows) (λ t.
      row 11 (negative_is (amounts_in ps) ∙ ap (λ ps. negative (amounts_of ps)) (used_is rows)) (λ u.
      row 12 (sym (too_large_is (stood_in rows b)) ∙ ap (λ (d : Day). too_large d.users) (stand_in_day (opens p q t))) (λ w. refl)))))))

  pub stand_in_agrees : Agree (stand_in rows) b
  stand_in_agrees = record {
    verdicts = stand_in_rows;
    days = λ v. stand_in_day (opens_accepted v);
    answers = λ v. unfold calls.stand_in in ap calls.rows_looked_at (looked_is rows (opens_accepted v).found);
  }

  -- for the shares
  pub no_users : verdict (calls.stand_in TOLERANCE rows (day_of b)).tests ≡ accept → b.users ≡ []
  no_users v = (opens_accepted v).alone

  pub row_apart : verdict (calls.stand_in TOLERANCE rows (day_of b)).tests ≡ accept → distinct (users_in ps) ≡ true
  row_apart v = (opens_accepted v).apart

-- ---- revise

module _ (b : Book) (h : Kept b) where
  abbrev d : Day
  d = day_of b

  R_is : b.allotted ≡ true → R b ≡ day_R d
  R_is e = ap (λ z. z -ℤ b.settled) (sym (net_day b (measured_right b h))) ∙ sym (same_R d b.settled h.good (unfold day_of in e))

  pub tolerated_is : b.allotted ≡ true → tolerated b ≡ no_more TOLERANCE (day_R d)
  tolerated_is e = in_size 99 (R b) ∙ ap (no_more TOLERANCE) (R_is e)

  abbrev sizes : ℕ → ℕ
  sizes m = nat_abs (whole b m)

  assigned_is : b.allotted ≡ true → day_of (assigned b) ≡ (assign (day_R d) d).after
  unfolding day_of assigned calls.assigned
  assigned_is e =
      ap (λ us. with_users us d)
      (sym
      (ap₂ (λ z ws. zip_with calls.revised (map (user_of b) b.users) (prorateZ z ws (numbers d.users))) (sym (R_is e))
      (of_each b (λ u. nat_abs (day.whole u)) sizes (λ m. ap nat_abs (whole_is b m)))
      ∙ ap (λ ns. zip_with calls.revised (map (user_of b) b.users) (prorateZ (R b) (map sizes b.users) ns)) (numbers_is b)
      ∙ zip_parts (R b) sizes b.users calls.revised (user_of b) (users_apart b h)))

  -- by whether R is within tolerance
  abbrev moved : Bool → calls.Move
  moved p = pick p (keep (day_R d) d) (assign (day_R d) d)

  open_stage : (s : Stage) (p : Bool) → either (not (both (is_provisional s) p)) false ≡ not (both (provisional s) p)
  open_stage Provisional p = either_none (not p)
  open_stage FinalProvisional p = refl
  open_stage FinalDefinitive p = refl

  revise_day : (p : Bool) → tolerated b ≡ p → b.allotted ≡ true → day_of (revised b) ≡ (moved p).after
  revise_day true t e = ap (λ p. day_of (pick p b (assigned b))) t
  revise_day false t e = ap (λ p. day_of (pick p b (assigned b))) t ∙ assigned_is e

  revise_answer : (p : Bool) → tolerated b ≡ p → b.allotted ≡ true → values revise b ≡ (moved p).answer
  revise_answer true t e = ap₂ (λ p z. pick p (calls.within_tolerance z) (calls.revision_assigned z)) t (R_is e)
  revise_answer false t e = ap₂ (λ p z. pick p (calls.within_tolerance z) (calls.revision_assigned z)) t (R_is e)

  -- rows 11 and 12, by whether R is within tolerance
  abbrev last_rows : Bool → Verdict
  last_rows p =
      pick (either (both (not p) (some_negative (map (whole b) b.users))) false) (refuse 11)
      (pick (some_too_large (pick p b (assigned b))) (refuse 12) accept)

  revise_rows : (p : Bool) → (b.allotted ≡ true → tolerated b ≡ p) → book_verdict revise b ≡ verdict (moved p).tests
  unfolding verdict refusals day_of
  revise_rows true t =
      row 1 (open_stage b.stage b.allotted) (λ q.
      let e = both_snd (provisional b.stage) b.allotted (not-false _ q) in
      ap last_rows (t e)
      ∙ ap (λ p. pick p (refuse 12) accept) (sym (too_large_is b) ∙ small_right d.users h.good.wholes))
  revise_rows false t =
      row 1 (open_stage b.stage b.allotted) (λ q.
      let e = both_snd (provisional b.stage) b.allotted (not-false _ q) in
      ap last_rows (t e)
      ∙ row 11 (either_none _ ∙ negative_is (map (whole b) b.users) ∙ ap negative (sym (wholes_are b))) (λ r.
      row 12 (sym (too_large_is (assigned b)) ∙ ap (λ (d : Day). too_large d.users) (assigned_is e)) (λ s. refl)))

  stands : verdict (move revise d).tests ≡ accept → b.allotted ≡ true
  stands v = unfold day_of in revise_allotted d v

  pub revise_agrees : Agree revise b
  unfolding revise_by
  revise_agrees = record {
    verdicts = revise_rows (no_more TOLERANCE (day_R d)) tolerated_is;
    days = λ v. revise_day (no_more TOLERANCE (day_R d)) (tolerated_is (stands v)) (stands v);
    answers = λ v. revise_answer (no_more TOLERANCE (day_R d)) (tolerated_is (stands v)) (stands v);
  }
