-- A user joins, and a line is added, on the arrays of a point-day that is entering. Assumes nothing.
use mathlib.Core.Path.{◌≡◌, refl, sym, ap, ◌∙◌, subst}
use mathlib.Core.Bool.{Bool, true, false, not}
use mathlib.Core.List.{List, ◌∷◌, map}
use Prim.Native.Nat.{ℕ, ◌+◌, ◌≤◌, ◌<◌}
use native.Mathlib.Omega.{arith}
use lib.Dec.{leb, eqb}
use lib.IntN.{ℤ, pos, negsuc, nat_abs, ◌+ℤ◌}
use lib.ListN.{length, get_or, take, set, length-set, length-map, length-replicate, get_or-map}
use lib.Seq.{get_or-set_same}
use borrow.Author.Tests.{leb-true, leb-false, eqb-true, eqb-false, eq-eqb, not-true}
use Rattle.numbers.specs.Sums.{pick, atZ, total}
use Rattle.numbers.specs.Lists.{has}
use Rattle.numbers.specs.Amounts.{is_negative}
use Rattle.numbers.proofs.Sums.{total_set}
use Rattle.numbers.proofs.Lists.{true≢false}
use Rattle.point_day.specs.Limits.{USERS, CELLS, LIMIT, LAST_NUMBER}
use Rattle.point_day.specs.Day.{all_offtake, measurement_right}
use Rattle.point_day.specs.Calls.{Answer, done, losses_added, line_right}
use Rattle.point_day.specs.Calls as calls
use Rattle.point_day.specs.Struct.{Sized, Outcome, user_at, read, none_below, taken, outcome, called}
use Rattle.point_day.specs.declared.Measurement.{Measurement}
use Rattle.point_day.specs.declared.PointDay.{PointDay}
use Rattle.point_day.proofs.Taken.{taken_facts}
use Rattle.state.proofs.Totals.{offtake_is}
use Rattle.numbers.proofs.Places.{every_at}
use Rattle.state.proofs.Cells.{low_from}
use Rattle.taken.proofs.Facts.{Facts, facts}
use Rattle.line.specs.Cell.{line_losses, past_limit, place, Limited}
use Rattle.state.specs.Places.{more}
use Rattle.line.specs.Lined.{with_cells, lined_at}
use Rattle.point_day.proofs.Padding.{map_set}
use Rattle.join.proofs.Joins.{join_2, join_4, join_5, join_done}
use Rattle.line.proofs.cells.Ranges.{ranges}
use Rattle.line.proofs.Lining.{line_2, line_done}
use Rattle.day_book.specs.Run.{Call, join, line, move, verdict_of}
use Rattle.day_file.specs.Report.{refused, unless_refused, in_order}
use Rattle.file_lines.specs.Entering.{entering, Entered}
use Rattle.file_lines.specs.Pieces.{user_refusal}
use Rattle.file_lines.proofs.Taking.{outcome_taken}
use Rattle.std.specs.Prelude.{Option, None}

-- a call and what follows it
pub step : (g : ℕ) (c : Call) (rest : List Call) (p : PointDay) {a : Answer} {q : PointDay} → outcome a q ≡ called (move c) p
    → in_order g (c ∷ rest) p ≡ unless_refused (verdict_of a) (in_order g rest q)
unfolding in_order
step g c rest p e = ap (λ (o : Outcome). unless_refused (verdict_of o.answer) (in_order g rest o.day)) (sym e)

-- a number of two bytes is a user's
pub number_low : {u : ℕ} → u < 65536 → u ≤ LAST_NUMBER
number_low l = omega arith

-- ---- the arrays

module _ {n : ℕ} {us : List ℕ} {cs ls : List ℤ} {x : ℕ} (s : Entered n us cs ls x) where
  pub sized : (m : Option Measurement) → Sized (entering n us cs ls m)
  unfolding entering
  sized m = record {
    users = s.users;
    consumption = s.consumption;
    losses = s.losses;
    balance = length-replicate CELLS (pos 0);
    revision = length-replicate USERS (pos 0);
  }

-- the offtake of taken arrays is the sum of their cells
offtake_of : (n : ℕ) (us : List ℕ) (cs ls : List ℤ) (m : Option Measurement) → taken (entering n us cs ls m) ≡ true
    → all_offtake (read (entering n us cs ls m)).users ≡ total (map nat_abs cs) + total (map nat_abs ls)
offtake_of n us cs ls m e =
    let t = taken_facts (entering n us cs ls m) e in
    offtake_is (entering n us cs ls m) t.past.consumption t.past.losses ∙ (unfold entering in refl)

same_users : (n : ℕ) (us : List ℕ) (cs ls : List ℤ) (m : Option Measurement) → (read (entering n us cs ls None)).users ≡ (read (entering n us cs ls m)).users
unfolding read user_at entering
same_users n us cs ls m = refl

module _ {n : ℕ} {us : List ℕ} {cs ls : List ℤ} {x : ℕ} (s : Entered n us cs ls x) where
  pub sum_is : x ≡ total (map nat_abs cs) + total (map nat_abs ls)
  sum_is = s.sum ∙ offtake_of n us cs ls None (s.taken None refl)

  -- what a line at a cell asks
  fact : Facts (entering n us cs ls None)
  fact = facts (entering n us cs ls None) (sized s None) (s.taken None refl)

  pub sum_small : x ≤ LIMIT
  sum_small = rw s.sum (taken_facts (entering n us cs ls None) (s.taken None refl)).offtake

  pub few : n ≤ USERS
  few = unfold entering in fact.few

  pub limited_consumption : Limited cs
  limited_consumption = low_from LIMIT cs (unfold entering in fact.arrays.consumption.range) LIMIT (omega arith)

  pub limited_losses : Limited ls
  limited_losses = low_from LIMIT ls (unfold entering in fact.arrays.losses.range) LIMIT (omega arith)

  none_below_consumption : none_below cs ≡ true
  none_below_consumption = unfold entering in (taken_facts (entering n us cs ls None) (s.taken None refl)).consumption

  none_below_losses : none_below ls ≡ true
  none_below_losses = unfold entering in (taken_facts (entering n us cs ls None) (s.taken None refl)).losses

  -- ---- a user joins

  module _ (u : ℕ) (l : u ≤ LAST_NUMBER) where
    pub user_2 : u ≡ 0 → (g : ℕ) (m : Option Measurement) (rest : List Call) → measurement_right m ≡ true → in_order g (join u ∷ rest) (entering n us cs ls m) ≡ refused 2
    user_2 e g m rest h = step g (join u) rest (entering n us cs ls m) (join_2 u (entering n us cs ls m) (sized s m) (s.taken m h) (unfold entering in refl) e)

    module _ (e : u ≡ 0 → ⊥) where
      pub user_4 : has u (take n us) ≡ true → (g : ℕ) (m : Option Measurement) (rest : List Call) → measurement_right m ≡ true → in_order g (join u ∷ rest) (entering n us cs ls m) ≡ refused 4
      user_4 f g m rest h =
          step g (join u) rest (entering n us cs ls m) (join_4 u (entering n us cs ls m) (sized s m) (s.taken m h) (unfold entering in refl) e l (unfold entering in f))

      module _ (f : has u (take n us) ≡ false) where
        pub user_5 : USERS ≤ n → (g : ℕ) (m : Option Measurement) (rest : List Call) → measurement_right m ≡ true → in_order g (join u ∷ rest) (entering n us cs ls m) ≡ refused 5
        user_5 k g m rest h =
            step g (join u) rest (entering n us cs ls m)
            (join_5 u (entering n us cs ls m) (sized s m) (s.taken m h) (unfold entering in refl) e l (unfold entering in f) (unfold entering in k))

        module _ (k : n < USERS) where
          joined : (m : Option Measurement) → measurement_right m ≡ true → outcome done (entering (n + 1) (set us n u) cs ls m) ≡ called (calls.join u) (entering n us cs ls m)
          joined m h =
              join_done u (entering n us cs ls m) (sized s m) (s.taken m h) (unfold entering in refl) e l (unfold entering in f) (unfold entering in k) (unfold entering in refl)

          pub user_done : (g : ℕ) (m : Option Measurement) (rest : List Call) → measurement_right m ≡ true
              → in_order g (join u ∷ rest) (entering n us cs ls m) ≡ in_order g rest (entering (n + 1) (set us n u) cs ls m)
          user_done g m rest h = step g (join u) rest (entering n us cs ls m) (joined m h)

          joined_taken : (m : Option Measurement) → measurement_right m ≡ true → taken (entering (n + 1) (set us n u) cs ls m) ≡ true
          joined_taken m h = outcome_taken (entering n us cs ls m) (sized s m) (s.taken m h) (unfold entering in refl) (join u) (joined m h)

          pub user_entered : Entered (n + 1) (set us n u) cs ls x
          user_entered = record {
            users = length-set us n u ∙ s.users;
            consumption = s.consumption;
            losses = s.losses;
            taken = joined_taken;
            sum = sum_is ∙ sym (offtake_of (n + 1) (set us n u) cs ls None (joined_taken None refl));
          }

-- ---- a line

more_total : (xs : List ℤ) (i v : ℕ) → none_below xs ≡ true → i < length xs → total (map nat_abs (more i v xs)) ≡ total (map nat_abs xs) + v
more_total xs i v h l =
    let e : nat_abs (atZ xs i +ℤ pos v) ≡ get_or (map nat_abs xs) i 0 + v = rw (get_or-map nat_abs xs i (pos 0)) (size (atZ xs i) (not-true _ (every_at (λ z. not (is_negative z)) (pos 0) xs h i l))) in
    ap total (map_set nat_abs xs i (atZ xs i +ℤ pos v) ∙ ap (set (map nat_abs xs) i) e) ∙ total_set (map nat_abs xs) i v (omega (arith, length-map xs nat_abs))
  where
    size : (z : ℤ) → is_negative z ≡ false → nat_abs (z +ℤ pos v) ≡ nat_abs z + v
    size (pos a) e = refl
    size (negsuc a) e = true≢false e

cells_of : (n : ℕ) (us : List ℕ) (cs ls : List ℤ) (m : Option Measurement) (j v w : ℕ)
    → entering n us (more j v cs) (more j w ls) m ≡ with_cells (more j v (entering n us cs ls m).consumption) (more j w (entering n us cs ls m).losses) (entering n us cs ls m)
unfolding entering
cells_of n us cs ls m j v w = refl

module _ (i : ℕ) {us : List ℕ} {cs ls : List ℤ} {x : ℕ} (s : Entered (i + 1) us cs ls x) (u kind c k : ℕ) (here : get_or us i 0 ≡ u) where
  pub line_out : line_right u kind c k ≡ false → (g : ℕ) (m : Option Measurement) (rest : List Call) → measurement_right m ≡ true
      → in_order g (line u kind c k ∷ rest) (entering (i + 1) us cs ls m) ≡ refused 2
  line_out e g m rest h =
      step g (line u kind c k) rest (entering (i + 1) us cs ls m)
      (line_2 u kind c k (entering (i + 1) us cs ls m) (sized s m) (s.taken m h) (unfold entering in refl) e)

  module _ (e : line_right u kind c k ≡ true) where
    lined : (m : Option Measurement) → measurement_right m ≡ true
        → lined_at i kind c k x (entering (i + 1) us cs ls m) ≡ called (calls.line u kind c k) (entering (i + 1) us cs ls m)
    lined m h =
        line_done u kind c k (entering (i + 1) us cs ls m) (sized s m) (s.taken m h) (unfold entering in refl) e i (unfold entering in omega arith)
        (unfold entering in here) x (s.sum ∙ ap all_offtake (same_users (i + 1) us cs ls m))

    pub line_past : past_limit x c k ≡ true → (g : ℕ) (m : Option Measurement) (rest : List Call) → measurement_right m ≡ true
        → in_order g (line u kind c k ∷ rest) (entering (i + 1) us cs ls m) ≡ refused 6
    line_past f g m rest h =
        step g (line u kind c k) rest (entering (i + 1) us cs ls m) (lined m h)
        ∙ ap (λ b. unless_refused (verdict_of (pick b (calls.refused 6) (losses_added (line_losses c k)))) (in_order g rest (lined_at i kind c k x (entering (i + 1) us cs ls m)).day)) f

    module _ (f : past_limit x c k ≡ false) where
      added : (m : Option Measurement) → measurement_right m ≡ true
          → outcome (losses_added (line_losses c k)) (entering (i + 1) us (more (place i kind) c cs) (more (place i kind) (line_losses c k) ls) m) ≡ called (calls.line u kind c k) (entering (i + 1) us cs ls m)
      added m h = ap (outcome (losses_added (line_losses c k))) (cells_of (i + 1) us cs ls m (place i kind) c (line_losses c k)) ∙ sym (ap go f) ∙ lined m h
        where
          go : Bool → Outcome
          go b =
              outcome (pick b (calls.refused 6) (losses_added (line_losses c k)))
              (pick b (entering (i + 1) us cs ls m) (with_cells (more (place i kind) c (entering (i + 1) us cs ls m).consumption) (more (place i kind) (line_losses c k) (entering (i + 1) us cs ls m).losses) (entering (i + 1) us cs ls m)))

      pub line_added : (g : ℕ) (m : Option Measurement) (rest : List Call) → measurement_right m ≡ true
          → in_order g (line u kind c k ∷ rest) (entering (i + 1) us cs ls m) ≡ in_order g rest (entering (i + 1) us (more (place i kind) c cs) (more (place i kind) (line_losses c k) ls) m)
      line_added g m rest h = step g (line u kind c k) rest (entering (i + 1) us cs ls m) (added m h)

      added_taken : (m : Option Measurement) → measurement_right m ≡ true → taken (entering (i + 1) us (more (place i kind) c cs) (more (place i kind) (line_losses c k) ls) m) ≡ true
      added_taken m h = outcome_taken (entering (i + 1) us cs ls m) (sized s m) (s.taken m h) (unfold entering in refl) (line u kind c k) (added m h)

      pub line_entered : Entered (i + 1) us (more (place i kind) c cs) (more (place i kind) (line_losses c k) ls) (x + (c + line_losses c k))
      line_entered =
          let r = ranges u kind c k e in
          record {
            users = s.users;
            consumption = length-set cs (place i kind) _ ∙ s.consumption;
            losses = length-set ls (place i kind) _ ∙ s.losses;
            taken = added_taken;
            sum =
                sums (total (map nat_abs cs)) (total (map nat_abs ls)) (sum_is s)
                (more_total cs (place i kind) c (none_below_consumption s) (omega (arith, s.consumption, few s, r.high)))
                (more_total ls (place i kind) (line_losses c k) (none_below_losses s) (omega (arith, s.losses, few s, r.high)))
                ∙ sym (offtake_of (i + 1) us (more (place i kind) c cs) (more (place i kind) (line_losses c k) ls) None (added_taken None refl));
          }
        where
          sums : (a b : ℕ) {a' b' : ℕ} → x ≡ a + b → a' ≡ a + c → b' ≡ b + line_losses c k → x + (c + line_losses c k) ≡ a' + b'
          sums a b p q r = omega arith

-- what such a number tells
data Told (u n : ℕ) (us : List ℕ) : ℕ → Type 0 where
  none : u ≡ 0 → Told u n us 2
  twice : (u ≡ 0 → ⊥) → has u (take n us) ≡ true → Told u n us 4
  full : (u ≡ 0 → ⊥) → has u (take n us) ≡ false → USERS ≤ n → Told u n us 5
  free : (u ≡ 0 → ⊥) → has u (take n us) ≡ false → n < USERS → Told u n us 0

tells : (u n : ℕ) (us : List ℕ) → Told u n us (user_refusal USERS u n us)
tells u n us = first (eqb u 0) refl
  where
    third : (u ≡ 0 → ⊥) → has u (take n us) ≡ false → (b : Bool) → leb USERS n ≡ b → Told u n us (pick b 5 0)
    third e f true h = full e f (leb-true USERS n h)
    third e f false h = free e f (leb-false USERS n h)

    second : (u ≡ 0 → ⊥) → (b : Bool) → has u (take n us) ≡ b → Told u n us (pick b 4 (pick (leb USERS n) 5 0))
    second e true h = twice e h
    second e false h = third e h (leb USERS n) refl

    first : (b : Bool) → eqb u 0 ≡ b → Told u n us (pick b 2 (pick (has u (take n us)) 4 (pick (leb USERS n) 5 0)))
    first true h = none (eqb-true u 0 h)
    first false h = second (eqb-false u 0 h) (has u (take n us)) refl

module _ {n : ℕ} {us : List ℕ} {cs ls : List ℤ} {x : ℕ} (s : Entered n us cs ls x) (u : ℕ) (l : u ≤ LAST_NUMBER) where
  refused_by : {r : ℕ} → Told u n us r → (r ≡ 0 → ⊥) → (g : ℕ) (m : Option Measurement) (rest : List Call) → measurement_right m ≡ true → in_order g (join u ∷ rest) (entering n us cs ls m) ≡ refused r
  refused_by (none e) h = user_2 s u l e
  refused_by (twice e f) h = user_4 s u l e f
  refused_by (full e f k) h = user_5 s u l e f k
  refused_by (free e f k) h = absurd (h refl)

  pub user_refused : {r : ℕ} → r ≡ user_refusal USERS u n us → (r ≡ 0 → ⊥) → (g : ℕ) (m : Option Measurement) (rest : List Call) → measurement_right m ≡ true
      → in_order g (join u ∷ rest) (entering n us cs ls m) ≡ refused r
  user_refused e h = refused_by (subst (Told u n us) (sym e) (tells u n us)) h

  -- the user has joined
  pub record Joined (us' : List ℕ) : Type 0 where
    pub room : n < USERS
    pub here : get_or us' n 0 ≡ u
    pub entered : Entered (n + 1) us' cs ls x
    pub goes_on : (g : ℕ) (m : Option Measurement) (rest : List Call) → measurement_right m ≡ true → in_order g (join u ∷ rest) (entering n us cs ls m) ≡ in_order g rest (entering (n + 1) us' cs ls m)

  joined_by : {r : ℕ} → Told u n us r → r ≡ 0 → Joined (set us n u)
  joined_by (none e) h = absurd (omega arith)
  joined_by (twice e f) h = absurd (omega arith)
  joined_by (full e f k) h = absurd (omega arith)
  joined_by (free e f k) h = record {
    room = k;
    here = get_or-set_same us n u 0 (omega (arith, s.users));
    entered = user_entered s u l e f k;
    goes_on = user_done s u l e f k;
  }

  pub user_joined : {r : ℕ} {us' : List ℕ} → r ≡ user_refusal USERS u n us → r ≡ 0 → us' ≡ pick (eqb r 0) (set us n u) us → Joined us'
  user_joined {r} e h q = subst Joined (sym (q ∙ ap (λ b. pick b (set us n u) us) (eq-eqb r 0 h))) (joined_by (subst (Told u n us) (sym e) (tells u n us)) h)
