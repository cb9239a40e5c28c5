-- Whole amounts after allot, stand-in and revise, from any taken point-day: refusal 12 never comes, and an accepted revise leaves net
-- within tolerance of everything allotted. Assumes nothing.
use mathlib.Core.Path.{◌≡◌, refl, sym, ap, ◌∙◌}
use mathlib.Core.Bool.{Bool, true, false, not}
use mathlib.Core.List.{List, [], ◌∷◌}
use mathlib.Core.Logic.{◌⊎◌}
use Prim.Native.Nat.{ℕ, ◌≤◌}
use native.Mathlib.Omega.{arith}
use lib.Dec.{eqb}
use lib.IntN.{ℤ, pos, neg_ℤ, nat_abs, ◌-ℤ◌, +ℤ_invr}
use lib.ListN.{length}
use borrow.Author.Tests.{leb-true, not-false}
use Rattle.numbers.specs.Sums.{pick}
use Rattle.numbers.specs.Lists.{both, every}
use Rattle.numbers.specs.Amounts.{is_negative, Between}
use Rattle.numbers.proofs.Lists.{All, true≢false, both_snd}
use Rattle.point_day.specs.Limits.{LIMIT, ROWS}
use Rattle.point_day.specs.Day.{User, Day, offtake, whole, all_whole, net, some, no_more, too_large, provisional}
use Rattle.point_day.specs.Calls.{refused, Move, Test, ◌when◌, Verdict, refuse, accept, verdict, balanced, allot, Pair, row_right, nearest_filled, opened, stand_in, assigned, keep, assign, revise_by, revise}
use Rattle.point_day.specs.Struct.{Sized, read, taken, outcome, by, perform, called}
use Rattle.point_day.specs.declared.PointDay.{PointDay}
use Rattle.point_day.proofs.Taken.{Taken, taken_facts}
use Rattle.point_day.proofs.Each.{some_length}
use Rattle.point_day.proofs.Sound.{Sound, taken_sound, net_pos, net_small}
use Rattle.point_day.proofs.Wholes.{NoneNegative, Small, small_sum, small_right, allot_sum, allot_wholes, allot_small, opened_sum, opened_wholes, none_negative, revise_sum, revise_wholes, revise_small}
use Rattle.point_day.proofs.Good.{accepted}
use Rattle.point_day.proofs.Settling.{Row, row_is, row_used}

-- ---- refused with another number

skip : {k n : ℕ} {b : Bool} (ts : List Test) → (k ≡ n → ⊥) → verdict ((k when b) ∷ ts) ≡ refuse n → (b ≡ false) × (verdict ts ≡ refuse n)
unfolding verdict
skip {k} {n} {b} ts h = go b
  where
    go : (b : Bool) → pick b (refuse k) (verdict ts) ≡ refuse n → (b ≡ false) × (verdict ts ≡ refuse n)
    go true e = absurd (h (let f : k ≡ n = cc in f))
    go false e = (refl, e)

last : {n : ℕ} (b : Bool) → verdict ((n when b) ∷ []) ≡ refuse n → b ≡ true
unfolding verdict
last true e = refl
last false e = absurd (let z : ◌≡◌ {A = ℕ} 0 1 = cc in omega arith)

passed_all : {n : ℕ} → verdict [] ≡ refuse n → ⊥
unfolding verdict
passed_all e = let z : ◌≡◌ {A = ℕ} 0 1 = cc in omega arith

-- ---- on a sound day; one that stands allotted has a user

module _ (d : Day) (s : Sound d) (stands : d.allotted ≡ true → some d.users ≡ true) where
  abbrev us : List User
  us = d.users

  -- ---- allot

  pub allot_bounds : verdict (allot d).tests ≡ accept
      → (all_whole (allot d).after.users ≡ net d)
      × (NoneNegative (allot d).after.users ⊎ All (λ u. Between (neg_ℤ (pos LIMIT)) (pos (offtake u)) (whole u)) (allot d).after.users)
  unfolding allot
  allot_bounds v =
      let p = accepted (allot d).tests v in
      let found = not-false (some us) p.1.1.0 in
      (allot_sum d s p.0 found, allot_wholes d s p.0 found)

  pub allot_passes_12 : verdict (allot d).tests ≡ refuse 12 → ⊥
  unfolding allot
  allot_passes_12 v =
      let p = skip _ (λ e. omega arith) v in
      let q = skip _ (λ e. omega arith) p.1 in
      let r = skip _ (λ e. omega arith) q.1 in
      true≢false (sym (last (too_large (balanced d)) r.1) ∙ small_right (balanced d) (allot_small d s p.0 (not-false (some us) r.0)))

  -- ---- stand-in

  module _ (t : ℕ) (rows : List (List Pair)) where
    abbrev row : List Pair
    row = nearest_filled rows

    row_facts : not (both (eqb (length rows) ROWS) (every row_right rows)) ≡ false → not (some row) ≡ false → Row row
    row_facts e f =
        row_is row (row_used rows (both_snd (eqb (length rows) ROWS) _ (not-false (both (eqb (length rows) ROWS) (every row_right rows)) e)) (not-false _ f))

    opened_bounds : Row row → some row ≡ true → (all_whole (opened (net d) row) ≡ net d) × NoneNegative (opened (net d) row)
    opened_bounds r found =
        (opened_sum (net d) row r.apart (some_length row found), opened_wholes (net d) row (ap is_negative (net_pos d.measurement)))

    opened_small : Row row → some row ≡ true → Small (opened (net d) row)
    opened_small r found =
        let b = opened_bounds r found in
        small_sum (opened (net d) row) b.1 (rw b.0 (net_small d.measurement s.measurement))

    pub stand_in_bounds : verdict (stand_in t rows d).tests ≡ accept
        → (all_whole (stand_in t rows d).after.users ≡ net d) × NoneNegative (stand_in t rows d).after.users
    unfolding stand_in
    stand_in_bounds v =
        let p = accepted (stand_in t rows d).tests v in
        opened_bounds (row_facts p.1.0 p.1.1.1.1.0) (not-false (some row) p.1.1.1.1.0)

    pub stand_in_passes_12 : verdict (stand_in t rows d).tests ≡ refuse 12 → ⊥
    unfolding stand_in
    stand_in_passes_12 v =
        let p₁ = skip _ (λ e. omega arith) v in
        let p₂ = skip _ (λ e. omega arith) p₁.1 in
        let p₇ = skip _ (λ e. omega arith) p₂.1 in
        let p₉ = skip _ (λ e. omega arith) p₇.1 in
        let p₁₀ = skip _ (λ e. omega arith) p₉.1 in
        let p₁₁ = skip _ (λ e. omega arith) p₁₀.1 in
        let found = not-false (some row) p₁₀.0 in
        true≢false (sym (last (too_large (opened (net d) row)) p₁₁.1) ∙ small_right (opened (net d) row) (opened_small (row_facts p₂.0 p₁₀.0) found))

  -- ---- revise

  abbrev R : ℤ
  R = net d -ℤ all_whole us

  open_day : not (both (provisional d.stage) d.allotted) ≡ false → some us ≡ true
  open_day e = stands (both_snd (provisional d.stage) d.allotted (not-false _ e))

  -- an assigned revision
  pub assign_bounds : verdict (assign R d).tests ≡ accept
      → (all_whole (assign R d).after.users ≡ net d) × NoneNegative (assign R d).after.users
  assign_bounds v =
      let p = accepted (assign R d).tests v in
      let before = none_negative us p.1.0 in
      (revise_sum d s (open_day p.0) before refl, revise_wholes d s (open_day p.0) before refl)

  assign_passes_12 : verdict (assign R d).tests ≡ refuse 12 → ⊥
  assign_passes_12 v =
      let p = skip _ (λ e. omega arith) v in
      let q = skip _ (λ e. omega arith) p.1 in
      true≢false (sym (last (too_large (assigned R us)) q.1) ∙ small_right (assigned R us) (revise_small d s (open_day p.0) (none_negative us q.0) refl))

  keep_passes_12 : verdict (keep R d).tests ≡ refuse 12 → ⊥
  keep_passes_12 v = passed_all (skip _ (λ e. omega arith) v).1

  pub revise_passes_12 : (t : ℕ) → verdict (revise t d).tests ≡ refuse 12 → ⊥
  unfolding revise_by
  revise_passes_12 t = go (no_more t R)
    where
      go : (p : Bool) → verdict (pick p (keep R d) (assign R d)).tests ≡ refuse 12 → ⊥
      go true v = keep_passes_12 v
      go false v = assign_passes_12 v

  -- "If R lies in −100 to 100, nothing changes"; otherwise the revisions make it 0
  pub revise_close : (t : ℕ) → verdict (revise t d).tests ≡ accept
      → nat_abs (net (revise t d).after -ℤ all_whole (revise t d).after.users) ≤ t
  unfolding revise_by
  revise_close t = go (no_more t R) refl
    where
      go : (p : Bool) → no_more t R ≡ p → verdict (pick p (keep R d) (assign R d)).tests ≡ accept
          → let d' = (pick p (keep R d) (assign R d)).after in nat_abs (net d' -ℤ all_whole d'.users) ≤ t
      go true e v = leb-true (nat_abs R) t e
      go false e v = rw ((assign_bounds v).0, +ℤ_invr (net d)) (omega arith)

-- ---- on a taken point-day

-- its day is such a day
pub taken_stands : (d : PointDay) → Taken d → (read d).allotted ≡ true → some (read d).users ≡ true
taken_stands d t e = (t.standing (unfold read in e)).0

module _ (d : PointDay) (z : Sized d) (h : taken d ≡ true) where
  abbrev t : Taken d
  t = taken_facts d h

  -- after an accepted allot the whole amounts add up to net; none is negative, or each lies between −1,000,000,000 and its user's
  -- consumption plus losses
  pub taken_allot : verdict (allot (read d)).tests ≡ accept
      → (all_whole (allot (read d)).after.users ≡ net (read d))
      × (NoneNegative (allot (read d)).after.users ⊎ All (λ u. Between (neg_ℤ (pos LIMIT)) (pos (offtake u)) (whole u)) (allot (read d)).after.users)
  taken_allot = allot_bounds (read d) (taken_sound d z t) (taken_stands d t)

  -- after an accepted stand-in, and after an assigned revision, they add up to net and none is negative
  pub taken_stand_in : (tolerance : ℕ) (rows : List (List Pair)) → verdict (stand_in tolerance rows (read d)).tests ≡ accept
      → (all_whole (stand_in tolerance rows (read d)).after.users ≡ net (read d)) × NoneNegative (stand_in tolerance rows (read d)).after.users
  taken_stand_in = stand_in_bounds (read d) (taken_sound d z t) (taken_stands d t)

  pub taken_assign : let R = net (read d) -ℤ all_whole (read d).users in verdict (assign R (read d)).tests ≡ accept
      → (all_whole (assign R (read d)).after.users ≡ net (read d)) × NoneNegative (assign R (read d)).after.users
  taken_assign = assign_bounds (read d) (taken_sound d z t) (taken_stands d t)

  -- after an accepted revise net is within tolerance of everything allotted
  pub taken_revise : (tolerance : ℕ) → verdict (revise tolerance (read d)).tests ≡ accept
      → nat_abs (net (revise tolerance (read d)).after -ℤ all_whole (revise tolerance (read d)).after.users) ≤ tolerance
  taken_revise = revise_close (read d) (taken_sound d z t) (taken_stands d t)

-- ---- no call answers 12

-- a call whose accepted answer is no refusal, and whose tests do not refuse with n, does not answer n; unless n is 2
not_answered : (m : Day → Move) (d : PointDay) (n : ℕ) → (2 ≡ n → ⊥) → ((m (read d)).answer ≡ refused n → ⊥)
    → (taken d ≡ true → verdict (m (read d)).tests ≡ refuse n → ⊥) → (called m d).answer ≡ refused n → ⊥
unfolding called
not_answered m d n two a v = go (taken d) refl
  where
    by_verdict : (w : Verdict) → verdict (m (read d)).tests ≡ w → taken d ≡ true → (by w (m (read d)) d).answer ≡ refused n → ⊥
    by_verdict (refuse k) e h q = v h (e ∙ ap refuse (let f : k ≡ n = cc in f))
    by_verdict accept e h q = a q

    go : (p : Bool) → taken d ≡ p → (pick p (perform (m (read d)) d) (outcome (refused 2) d)).answer ≡ refused n → ⊥
    go true h q = by_verdict (verdict (m (read d)).tests) refl h q
    go false h q = two (let f : 2 ≡ n = cc in f)

module _ (d : PointDay) (z : Sized d) where
  pub allot_never_12 : (called allot d).answer ≡ refused 12 → ⊥
  allot_never_12 =
      not_answered allot d 12 (λ e. omega arith) (unfold allot in λ e. let f : ◌≡◌ {A = ℕ} 0 1 = cc in omega arith)
      (λ h. allot_passes_12 (read d) (taken_sound d z (taken_facts d h)) (taken_stands d (taken_facts d h)))

  pub stand_in_never_12 : (tolerance : ℕ) (rows : List (List Pair)) → (called (stand_in tolerance rows) d).answer ≡ refused 12 → ⊥
  stand_in_never_12 tolerance rows =
      not_answered (stand_in tolerance rows) d 12 (λ e. omega arith) (unfold stand_in in λ e. let f : ◌≡◌ {A = ℕ} 0 1 = cc in omega arith)
      (λ h. stand_in_passes_12 (read d) (taken_sound d z (taken_facts d h)) (taken_stands d (taken_facts d h)) tolerance rows)

  pub revise_never_12 : (tolerance : ℕ) → (called (revise tolerance) d).answer ≡ refused 12 → ⊥
  revise_never_12 tolerance =
      not_answered (revise tolerance) d 12 (λ e. omega arith) (unfold revise_by in answered (no_more tolerance R))
      (λ h. revise_passes_12 (read d) (taken_sound d z (taken_facts d h)) (taken_stands d (taken_facts d h)) tolerance)
    where
      R : ℤ
      R = net (read d) -ℤ all_whole (read d).users

      answered : (p : Bool) → (pick p (keep R (read d)) (assign R (read d))).answer ≡ refused 12 → ⊥
      answered true e = let f : ◌≡◌ {A = ℕ} 0 1 = cc in omega arith
      answered false e = let f : ◌≡◌ {A = ℕ} 0 1 = cc in omega arith
