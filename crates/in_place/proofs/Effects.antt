-- What a call that passes its tests writes into the numbers is the point-day afterwards, stored in their place. Assumes nothing.
use mathlib.Core.Path.{◌≡◌, refl, sym, ap, ap₂, ◌∙◌}
use mathlib.Core.Bool.{true, false}
use mathlib.Core.List.{List, [], ◌∷◌, ◌++◌, map}
use Prim.Native.Nat.{ℕ, ◌+◌, ◌-◌, ◌*◌, ◌≤◌, ◌<◌}
use native.Mathlib.Omega.{arith}
use lib.Dec.{leb}
use lib.IntN.{ℤ, pos, ◌+ℤ◌}
use lib.ListN.{length, get_or, take, drop, set, replicate, length-set, length-drop}
use lib.Seq.{get_or-take, get_or-drop, length-take-le}
use borrow.Author.Tests.{leb-true, eq-eqb, ne_eqb}
use Rattle.numbers.specs.Sums.{atZ}
use Rattle.numbers.specs.Lists.{flat}
use Rattle.numbers.specs.Amounts.{Within}
use Rattle.numbers.proofs.Lists.{both_fst, both_snd}
use Rattle.point_day.specs.Limits.{USERS, CELLS, LIMIT, TOLERANCE}
use Rattle.point_day.specs.Fields.{set_allotted, set_users, set_consumption, set_losses, set_balance, set_revision, set_count}
use Rattle.point_day.specs.Answers.{done, losses_added, rows_looked_at, within_tolerance, revision_assigned}
use Rattle.point_day.specs.Calls.{join, line, measure, allot, revise, start_final, stand_in}
use Rattle.point_day.specs.Day.{next, fresh}
use Rattle.point_day.specs.Struct.{Sized, Outcome, outcome, called, padded, laid, rows_of}
use Rattle.point_day.specs.declared.PointDay.{PointDay}
use Rattle.state.proofs.Cells.{low_from}
use Rattle.taken.proofs.Facts.{Facts, facts}
use Rattle.join.specs.Appended.{appended, Joins}
use Rattle.state.specs.Places.{more}
use Rattle.line.specs.Lined.{with_cells, Lines}
use Rattle.measure.specs.Measuring.{Measures}
use Rattle.allot.specs.Allotted.{with_balances, Allots}
use Rattle.revise.specs.Revised.{Assigns}
use Rattle.start_final.specs.Writes.{restarted, Starts}
use Rattle.stand_in.specs.Rows.{rows_in}
use Rattle.stand_in.specs.Openings.{row_users, opened_with}
use Rattle.stand_in.specs.StandsIn.{StandsIn}
use Rattle.plain_day.specs.Layout.{LENGTH, STAGE_AT, ALLOTTED_AT, MEASURED_AT, EMISSION_AT, DOWNSTREAM_AT, COUNT_AT, USERS_AT, CONSUMPTION_AT, LOSSES_AT, BALANCE_AT, REVISION_AT, put, is_readable, stage_in, count_in, day_in, stored, numbers_of, stage_number}
use Rattle.plain_day.specs.Plain.{plain, plain_call, plain_fresh}
use Rattle.plain_day.proofs.Ranges.{laid_length}
use Rattle.plain_day.proofs.Again.{again, day_sized}
use Rattle.plain_day.proofs.Outcomes.{gives}
use Rattle.plain_day.proofs.Stores as store

module _ (xs : List ℤ) (e : is_readable xs ≡ true) where
  abbrev d : PointDay
  d = day_in xs

  z : Sized d
  z = day_sized xs e

  -- a call without values
  pub done_by : (call : PointDay → Outcome) (d' : PointDay) → outcome done d' ≡ call d → {r : ℕ} {ys : List ℤ} → r ≡ 0 → ys ≡ stored d' xs → plain r [] ys ≡ plain_call call [] xs
  done_by call d' o p q = ap₂ (λ r ys. plain r [] ys) p q ∙ gives call [] xs e done d' o

  -- ---- join

  pub join_room : (n : ℕ) → Joins n d → count_in xs < USERS
  unfolding day_in
  join_room n J = J.room

  pub joined : (n : ℕ) → Joins n d → {r : ℕ} {ys : List ℤ} → r ≡ 0 → ys ≡ set (set xs (USERS_AT + count_in xs) (pos n)) COUNT_AT (pos (count_in xs + 1))
      → plain r [] ys ≡ plain_call (called (join n)) [] xs
  joined n J p q =
      let k = count_in xs in
      done_by (called (join n)) (appended n d) J.is p
      (q
      ∙ ap (λ t. set (set t (USERS_AT + k) (pos n)) COUNT_AT (pos (k + 1))) (sym (again xs e))
      ∙ ap (λ t. set t COUNT_AT (pos (k + 1))) (store.user_stored d z xs k n (join_room n J))
      ∙ store.count_stored (set_users (set d.users k n) d) xs (k + 1)
      ∙ (unfold day_in in refl))

  -- ---- line

  module _ (n kind c k i x : ℕ) (L : Lines n kind c k d i x) where
    F : Facts d
    F = facts d z L.taken

    pub consumption_room : Within LIMIT (atZ xs (CONSUMPTION_AT + i))
    unfolding day_in
    consumption_room = rw (← get_or-drop CONSUMPTION_AT xs i (pos 0), ← get_or-take CELLS (drop CONSUMPTION_AT xs) i (pos 0) L.place) (low_from LIMIT (day_in xs).consumption F.arrays.consumption.range LIMIT (omega arith) i)

    pub losses_room : Within LIMIT (atZ xs (LOSSES_AT + i))
    unfolding day_in
    losses_room = rw (← get_or-drop LOSSES_AT xs i (pos 0), ← get_or-take CELLS (drop LOSSES_AT xs) i (pos 0) L.place) (low_from LIMIT (day_in xs).losses F.arrays.losses.range LIMIT (omega arith) i)

    pub cells_stored : more (LOSSES_AT + i) x (more (CONSUMPTION_AT + i) c xs) ≡ stored (with_cells (more i c d.consumption) (more i x d.losses) d) xs
    cells_stored =
        let d₁ = set_consumption (more i c d.consumption) d in
        let z₁ = store.sized_consumption d z (more i c d.consumption) (length-set d.consumption i (atZ d.consumption i +ℤ pos c) ∙ z.consumption) in
        ap (λ t. more (LOSSES_AT + i) x (more (CONSUMPTION_AT + i) c t)) (sym (again xs e))
        ∙ ap (λ y. more (LOSSES_AT + i) x (set (stored d xs) (CONSUMPTION_AT + i) (y +ℤ pos c))) (store.consumption_at d z xs i L.place)
        ∙ ap (more (LOSSES_AT + i) x) (store.consumption_stored d z xs i (atZ d.consumption i +ℤ pos c) L.place)
        ∙ ap (λ y. set (stored d₁ xs) (LOSSES_AT + i) (y +ℤ pos x)) (store.losses_at d₁ z₁ xs i L.place)
        ∙ store.losses_stored d₁ z₁ xs i (atZ d.losses i +ℤ pos x) L.place

    pub lined : (vs : List ℤ) {r v : ℕ} {ys : List ℤ} → r ≡ 0 → v ≡ x → ys ≡ more (LOSSES_AT + i) x (more (CONSUMPTION_AT + i) c xs)
        → plain r (pos v ∷ []) ys ≡ plain_call (called (line n kind c k)) vs xs
    lined vs {r} {v} {ys} p u q =
        ap₂ (λ r v. plain r (pos v ∷ []) ys) p u
        ∙ ap (λ ys. plain 0 (pos x ∷ []) ys) (q ∙ cells_stored)
        ∙ gives (called (line n kind c k)) vs xs e (losses_added x) (with_cells (more i c d.consumption) (more i x d.losses) d) L.is

  -- ---- measure

  pub emission_low : (m w : ℕ) → Measures m w d → m ≤ LIMIT
  emission_low m w M = leb-true m LIMIT (both_fst (leb m LIMIT) (leb w m) M.right)

  pub downstream_low : (m w : ℕ) → Measures m w d → w ≤ LIMIT
  downstream_low m w M = omega (arith, emission_low m w M, leb-true w m (both_snd (leb m LIMIT) (leb w m) M.right))

  pub measured : (m w : ℕ) → Measures m w d → {r : ℕ} {ys : List ℤ} → r ≡ 0 → ys ≡ set (set (set xs MEASURED_AT (pos 1)) EMISSION_AT (pos m)) DOWNSTREAM_AT (pos w)
      → plain r [] ys ≡ plain_call (called (measure m w)) [] xs
  measured m w M p q =
      done_by (called (measure m w)) _ M.is p
      (q
      ∙ ap (λ t. set (set (set t MEASURED_AT (pos 1)) EMISSION_AT (pos m)) DOWNSTREAM_AT (pos w)) (sym (again xs e))
      ∙ store.measurement_stored d xs m w)

  -- ---- allot

  pub allots : (bs : List ℤ) → length bs ≡ CELLS → Allots bs d → {r : ℕ} {ys : List ℤ} → r ≡ 0 → ys ≡ set (put BALANCE_AT bs xs) ALLOTTED_AT (pos 1)
      → plain r [] ys ≡ plain_call (called allot) [] xs
  allots bs n A p q =
      done_by (called allot) (with_balances bs d) A.is p
      (q
      ∙ ap (λ t. set (put BALANCE_AT bs t) ALLOTTED_AT (pos 1)) (sym (again xs e))
      ∙ ap (λ t. set t ALLOTTED_AT (pos 1)) (store.balance_stored d z xs bs n)
      ∙ store.allotted_stored (set_balance bs d) xs true)

  -- ---- revise

  pub within : (vs : List ℤ) (R : ℤ) → outcome (within_tolerance R) d ≡ called (revise TOLERANCE) d → {r v : ℕ} {x : ℤ} → r ≡ 0 → v ≡ 1 → x ≡ R
      → plain r (pos v ∷ x ∷ []) xs ≡ plain_call (called (revise TOLERANCE)) vs xs
  within vs R o {r} {v} {x} p u w = ap₂ (λ r v. plain r (pos v ∷ x ∷ []) xs) p u ∙ ap (λ x. plain 0 (pos 1 ∷ x ∷ []) xs) w ∙ gives (called (revise TOLERANCE)) vs xs e (within_tolerance R) d o

  pub assigns : (vs : List ℤ) (R : ℤ) (rs : List ℤ) → length rs ≡ USERS → Assigns TOLERANCE d R rs → {r v : ℕ} {x : ℤ} {ys : List ℤ} → r ≡ 0 → v ≡ 0 → x ≡ R → ys ≡ put REVISION_AT rs xs
      → plain r (pos v ∷ x ∷ []) ys ≡ plain_call (called (revise TOLERANCE)) vs xs
  assigns vs R rs n A {r} {v} {x} {ys} p u w q =
      ap₂ (λ r v. plain r (pos v ∷ x ∷ []) ys) p u
      ∙ ap₂ (λ x ys. plain 0 (pos 0 ∷ x ∷ []) ys) w (q ∙ ap (put REVISION_AT rs) (sym (again xs e)) ∙ store.revision_stored d z xs rs n)
      ∙ gives (called (revise TOLERANCE)) vs xs e (revision_assigned R) (set_revision rs d) A.is

  -- ---- start-final

  pub restarts : Starts d → {r : ℕ} {ys : List ℤ} → r ≡ 0
      → ys ≡ set (set (take CONSUMPTION_AT xs ++ replicate (length xs - CONSUMPTION_AT) (pos 0)) ALLOTTED_AT (pos 0)) STAGE_AT (pos (stage_number (next (stage_in xs))))
      → plain r [] ys ≡ plain_call (called start_final) [] xs
  restarts S p q =
      let s = next (stage_in xs) in
      let d₁ = set_consumption (replicate CELLS (pos 0)) (set_losses (replicate CELLS (pos 0)) (set_balance (replicate CELLS (pos 0)) (set_revision (replicate USERS (pos 0)) d))) in
      done_by (called start_final) (restarted d) S.is p
      (q
      ∙ ap (λ k. set (set (take CONSUMPTION_AT xs ++ replicate (k - CONSUMPTION_AT) (pos 0)) ALLOTTED_AT (pos 0)) STAGE_AT (pos (stage_number s))) (laid_length xs e)
      ∙ ap (λ t. set (set (take CONSUMPTION_AT t ++ replicate (LENGTH - CONSUMPTION_AT) (pos 0)) ALLOTTED_AT (pos 0)) STAGE_AT (pos (stage_number s))) (sym (again xs e))
      ∙ ap (λ t. set (set t ALLOTTED_AT (pos 0)) STAGE_AT (pos (stage_number s))) (store.cleared_stored d z xs)
      ∙ ap (λ t. set t STAGE_AT (pos (stage_number s))) (store.allotted_stored d₁ xs false)
      ∙ store.stage_stored (set_allotted false d₁) xs s
      ∙ (unfold day_in in refl))

  -- ---- stand-in

  module _ (counts users : List ℕ) (amounts : List ℤ) (k : ℕ) (rs : List ℤ) (S : StandsIn TOLERANCE counts users amounts d k rs) where
    pub opens : (vs : List ℤ) → length rs ≡ USERS → {r v : ℕ} {ys : List ℤ} → r ≡ 0 → v ≡ k + 1
        → ys ≡ set (set (put USERS_AT (map pos (row_users counts users k)) (put REVISION_AT rs xs)) COUNT_AT (pos (length (row_users counts users k)))) ALLOTTED_AT (pos 1)
        → plain r (pos v ∷ []) ys ≡ plain_call (called (stand_in TOLERANCE (rows_of (rows_in counts users amounts)))) vs xs
    opens vs n {r} {v} {ys} p u q =
        let ns = row_users counts users k in
        let d₁ = set_revision rs d in
        let z₁ = store.sized_revision d z rs n in
        let d₂ = set_users (ns ++ drop (length ns) d.users) d₁ in
        ap₂ (λ r v. plain r (pos v ∷ []) ys) p u
        ∙ ap (λ ys. plain 0 (pos (k + 1) ∷ []) ys)
        (q
        ∙ ap (λ t. set (set (put USERS_AT (map pos ns) (put REVISION_AT rs t)) COUNT_AT (pos (length ns))) ALLOTTED_AT (pos 1)) (sym (again xs e))
        ∙ ap (λ t. set (set (put USERS_AT (map pos ns) t) COUNT_AT (pos (length ns))) ALLOTTED_AT (pos 1)) (store.revision_stored d z xs rs n)
        ∙ ap (λ t. set (set t COUNT_AT (pos (length ns))) ALLOTTED_AT (pos 1)) (store.users_stored d₁ z₁ xs ns few)
        ∙ ap (λ t. set t ALLOTTED_AT (pos 1)) (store.count_stored d₂ xs (length ns))
        ∙ store.allotted_stored (set_count (length ns) d₂) xs true)
        ∙ gives (called (stand_in TOLERANCE (rows_of (rows_in counts users amounts)))) vs xs e (rows_looked_at (k + 1)) (opened_with ns rs d) S.is
      where
        few : length (row_users counts users k) ≤ USERS
        few = omega (arith, length-take-le (get_or counts k 0) (drop (USERS * k) users) (omega (arith, length-drop (USERS * k) users, S.row.users_long, S.row.found, S.row.few)), S.row.few)

-- ---- fresh

pub no_cells : replicate CELLS (pos 0) ≡ padded CELLS (pos 0) []
unfolding padded
no_cells = refl

zeros : numbers_of (laid fresh) ≡ replicate LENGTH (pos 0)
unfolding stored laid fresh padded flat
zeros = refl

pub fresh_refused : (xs : List ℤ) → (length xs ≡ LENGTH → ⊥) → plain 2 [] xs ≡ plain_fresh xs
unfolding plain_fresh
fresh_refused xs h = rw (ne_eqb (length xs) LENGTH h)

pub fresh_done : (xs ys : List ℤ) → length xs ≡ LENGTH → ys ≡ take 0 xs ++ replicate (length xs - 0) (pos 0) → plain 0 [] ys ≡ plain_fresh xs
unfolding plain_fresh
fresh_done xs ys l q = rw (eq-eqb (length xs) LENGTH l) (ap (λ t. plain 0 [] t) (q ∙ ap (λ k. replicate (k - 0) (pos 0)) l ∙ sym zeros))
