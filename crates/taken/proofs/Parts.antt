-- The tests of a point-day's parts: what they find, and the point-days that are taken. Assumes nothing.
use mathlib.Core.Path.{◌≡◌, refl, sym, ap, ap₂, ◌∙◌}
use mathlib.Core.Bool.{true, false, not}
use mathlib.Core.List.{List, [], ◌∷◌, ◌++◌}
use mathlib.Core.Logic.{⊎_elim}
use Prim.Native.Nat.{ℕ, zero, suc, ◌+◌, ◌*◌, ◌/◌, ◌%◌, ◌≤◌, ◌<◌}
use native.Mathlib.Omega.{arith}
use lib.Dec.{eqb}
use lib.IntN.{ℤ, pos, negsuc, nat_abs, ◌+ℤ◌, +ℤ_idr}
use lib.ListN.{length, get_or, drop, get_or-append}
use lib.Seq.{get_or-take, get_or-drop, drop_at}
use mir.Syntax.{w64}
use mir.Val.{of_z, to_z, SFits}
use borrow.Author.Tests.{le-leb, leb-true, eqb-true, eq-eqb, ltb-false}
use Rattle.numbers.specs.Sums.{sumZ, table, atZ, total}
use Rattle.numbers.specs.Lists.{every}
use Rattle.numbers.specs.Amounts.{Within, Between, is_negative}
use Rattle.numbers.proofs.Places.{at_every, from_every}
use Rattle.numbers.proofs.Sums.{lt_or_ge, length_table, getD_table, sumZ_eq}
use Rattle.numbers.proofs.Lists.{passed, All, true≢false, both_fst, both_snd, both_true, all_every, every_all, all_map}
use Rattle.numbers.proofs.Amounts.{back, sfits, widen, within_add, next_turn_kept, next_turn_fits}
use Rattle.point_day.specs.Limits.{USERS, CELLS, KINDS, LIMIT, AMOUNT}
use Rattle.point_day.specs.Day.{User, offtake, all_offtake, whole, no_more, is_zero}
use Rattle.point_day.specs.Struct.{Sized, kinds_of, user_at, read, none_past, none_below, unallotted, amounts_right, sum_right, taken}
use Rattle.point_day.specs.declared.Measurement.{Measurement}
use Rattle.point_day.specs.declared.PointDay.{PointDay}
use Rattle.point_day.proofs.Taken.{taken_facts, facts_taken}
use Rattle.point_day.proofs.Sound.{Bare, bare_whole, bare_all}
use Rattle.state.specs.Places.{From, ROOM, LOW, SizedSlot, cellZ, offtake_at, balance_at, whole_at}
use Rattle.state.proofs.Cells.{zero_between, between_zero, between_sign, low_size, nonneg_between, between_size}
use Rattle.state.proofs.Lows.{user_balance_within}
use Rattle.state.proofs.Totals.{kinds_long, whole_is, wholes_are, whole_parts, offtakes_are}
use Rattle.std.specs.Prelude.{Option, None, Some}
use Rattle.taken.specs.Tested.{TestedParts, Found, Head, Offtakes, Wholes, Balances, Entering, Allotted, added_at}
use Rattle.taken.proofs.Facts.{wholes_of, Facts, all_users, some_users, numbers_are, bare, facts, untaken, taken_summable}
use Rattle.std.specs.Prelude.{Option}

-- ---- the sum of k users is that of n users

pub offtakes_back : (cs ls : List ℤ) (n : ℕ) {k : ℕ} {z : ℤ} → z ≡ sumZ (offtake_at cs ls) k → k ≡ n → z ≡ sumZ (offtake_at cs ls) n
offtakes_back cs ls n e q = e ∙ ap (sumZ (offtake_at cs ls)) q

pub balances_back : (ws bs rs : List ℤ) (n : ℕ) {k : ℕ} {z : ℤ} → z ≡ sumZ (added_at ws bs rs) k → k ≡ n → z ≡ sumZ (added_at ws bs rs) n
balances_back ws bs rs n e q = e ∙ ap (sumZ (added_at ws bs rs)) q

-- ---- balances and revisions

same_table : (f g : ℕ → ℤ) (n : ℕ) → ((i : ℕ) → i < n → f i ≡ g i) → table f n ≡ table g n
unfolding table
same_table f g zero h = refl
same_table f g (suc n) h = ap₂ (λ s x. s ++ (x ∷ [])) (same_table f g n (λ i l. h i (omega arith))) (h n (omega arith))

-- slot s of the column ws is in range, before and after balances and revision are added
abbrev pub Added : List ℤ → List ℤ → List ℤ → ℕ → Type 0
Added ws bs rs s = SizedSlot bs rs s × Within AMOUNT (added_at ws bs rs s)

module _ (ws bs rs : List ℤ) (s : ℕ) (h : Within (10 * ROOM) (atZ ws s)) (k : SizedSlot bs rs s) where
  added_within : Within (16 * ROOM) (added_at ws bs rs s)
  added_within = widen (within_add h (user_balance_within bs rs s k)) (omega arith)

  -- the slot as the code holds it
  module _ {x b : ℤ} (ex : x ≡ atZ ws s) (eb : b ≡ balance_at bs rs s) where
    added_is : to_z w64 (of_z w64 x) +ℤ to_z w64 (of_z w64 b) ≡ added_at ws bs rs s
    added_is =
        ap₂ ◌+ℤ◌ (ap (λ z. to_z w64 (of_z w64 z)) ex ∙ back h (omega arith)) (ap (λ z. to_z w64 (of_z w64 z)) eb ∙ back (user_balance_within bs rs s k) (omega arith))

    pub added_fits : SFits w64 (to_z w64 (of_z w64 x) +ℤ to_z w64 (of_z w64 b))
    added_fits = rw added_is (sfits added_within (omega arith))

    pub added_back : to_z w64 (of_z w64 (to_z w64 (of_z w64 x) +ℤ to_z w64 (of_z w64 b))) ≡ added_at ws bs rs s
    added_back = rw added_is (back added_within (omega arith))

    added_bits : of_z w64 (to_z w64 (of_z w64 x) +ℤ to_z w64 (of_z w64 b)) ≡ of_z w64 (added_at ws bs rs s)
    added_bits = ap (of_z w64) added_is

    -- and the slots before it, once its size u is tested
    module _ (before : (j : ℕ) → 0 ≤ j → j < s → Added ws bs rs j) {u : ℕ} (eu : u ≡ nat_abs (to_z w64 (of_z w64 (to_z w64 (of_z w64 x) +ℤ to_z w64 (of_z w64 b))))) (lu : u ≤ AMOUNT) where
      pub added_all : (j : ℕ) → 0 ≤ j → j < s + 1 → Added ws bs rs j
      added_all = passed (Added ws bs rs) 0 s before (k, record { size = omega (arith, rw added_back at eu, lu) })

      -- their sum
      module _ (n : ℕ) (e : to_z w64 n ≡ sumZ (added_at ws bs rs) s) (l : s < USERS) where
        pub added_sum_fits : SFits w64 (to_z w64 n +ℤ to_z w64 (of_z w64 (to_z w64 (of_z w64 x) +ℤ to_z w64 (of_z w64 b))))
        added_sum_fits = rw added_bits (next_turn_fits AMOUNT (added_at ws bs rs) s (λ j m. (added_all j (omega arith) m).1) n e (omega arith))

        pub added_sum_kept : to_z w64 (of_z w64 (to_z w64 n +ℤ to_z w64 (of_z w64 (to_z w64 (of_z w64 x) +ℤ to_z w64 (of_z w64 b))))) ≡ sumZ (added_at ws bs rs) (s + 1)
        added_sum_kept = rw added_bits (next_turn_kept AMOUNT (added_at ws bs rs) s (λ j m. (added_all j (omega arith) m).1) n e (omega arith))

-- consumption and losses first, then balances and revisions
module _ (cs ls bs rs : List ℤ) (n : ℕ) (before ws : List ℤ) (e : ws ≡ table (offtake_at cs ls) n ++ drop n before) where
  pub column_at : (s : ℕ) → s < n → atZ ws s ≡ offtake_at cs ls s
  column_at s l =
      ap (λ t. atZ t s) e ∙ get_or-append (table (offtake_at cs ls) n) (drop n before) (pos 0) s (omega (arith, length_table (offtake_at cs ls) n)) ∙ getD_table (offtake_at cs ls) n s (pos 0) l

  added_whole : (s : ℕ) → s < n → added_at ws bs rs s ≡ whole_at cs ls bs rs s
  added_whole s l = ap (λ t. t +ℤ balance_at bs rs s) (column_at s l) ∙ whole_parts cs ls bs rs s

  column_rest : drop n ws ≡ drop n before
  column_rest = ap (drop n) e ∙ drop_at (table (offtake_at cs ls) n) (drop n before) n (length_table (offtake_at cs ls) n)

  pub allotted_found : {P : Type 0} (r : Option ℤ) (after : List ℤ) → (((s : ℕ) → s < n → SizedSlot bs rs s) → Wholes n (whole_at cs ls bs rs) → P) → (P → ((s : ℕ) → s < n → SizedSlot bs rs s) × Wholes n (whole_at cs ls bs rs))
      → Found (Balances n ws bs rs) (added_at ws bs rs) n ws r after → Found P (whole_at cs ls bs rs) n before r after
  allotted_found None after g h t =
      let q : sumZ (added_at ws bs rs) n ≡ sumZ (whole_at cs ls bs rs) n = sumZ_eq (added_at ws bs rs) (whole_at cs ls bs rs) n added_whole in
      λ p. t record { sizes = (h p).0; wholes = record { each = λ s l. rw (added_whole s l) ((h p).1.each s l); sum = rw q (h p).1.sum } }
  allotted_found (Some z) after g h t =
      let q : sumZ (added_at ws bs rs) n ≡ sumZ (whole_at cs ls bs rs) n = sumZ_eq (added_at ws bs rs) (whole_at cs ls bs rs) n added_whole in (
        g t.0.sizes record { each = λ s l. rw (added_whole s l) at (t.0.wholes.each s l); sum = rw q at t.0.wholes.sum },
        record { sum = t.1.sum ∙ q; wholes = t.1.wholes ∙ ap₂ ◌++◌ (same_table (added_at ws bs rs) (whole_at cs ls bs rs) n added_whole) column_rest },
      )

-- ---- consumption and losses of a point-day

wider : (m n : ℕ) (x : ℤ) → m ≤ n → Between (pos 0) (pos m) x → Between (pos 0) (pos n) x
wider m n x l h = nonneg_between n x (between_sign x h) (omega (arith, low_size m x h))

-- cells that are low up to the last user, and 0 past it
low_cells : (xs : List ℤ) (n : ℕ) → length xs ≡ CELLS → ((s : ℕ) → s < n → (k : ℕ) → k < KINDS → Between (pos 0) (pos LOW) (atZ xs (KINDS * s + k))) → From (KINDS * n) (pos 0) (pos 0) xs
    → From 0 (pos 0) (pos LOW) xs
low_cells xs n z h r i a l =
    ⊎_elim
    (λ q. let e : 5 * (i / 5) + i % 5 ≡ i = omega arith in rw e at (h (i / 5) (omega arith) (i % 5) (omega arith)))
    (λ q. wider 0 LOW (atZ xs i) (omega arith) (r i q l))
    (lt_or_ge i (5 * n))

low_signs : (xs : List ℤ) → From 0 (pos 0) (pos LOW) xs → none_below xs ≡ true
low_signs xs h = at_every (λ x. not (is_negative x)) (pos 0) xs (λ i l. ap not (between_sign (atZ xs i) (h i (omega arith) l)))

module _ (d : PointDay) (z : Sized d) where
  pub head_of : Facts d → Head d.measurement d.count d.users
  head_of f = record { few = f.few; past = f.past; named = f.named; apart = f.apart; measurement = f.measurement }

  offtakes_of : taken d ≡ true → Offtakes d.count d.consumption d.losses
  offtakes_of q =
      let f = facts d z q in
      let t = taken_facts d q in
      record {
        low = λ s l k a m. (
          wider LIMIT LOW (atZ d.consumption (KINDS * s + k)) (omega arith) (f.arrays.consumption.range (KINDS * s + k) (omega arith) (omega (arith, z.consumption, f.few))),
          wider LIMIT LOW (atZ d.losses (KINDS * s + k)) (omega arith) (f.arrays.losses.range (KINDS * s + k) (omega arith) (omega (arith, z.losses, f.few))),
        );
        limit = rw (offtakes_are d z t.consumption t.losses f.few) (le-leb (all_offtake (read d).users) LIMIT t.offtake);
      }

  module _ (h : Head d.measurement d.count d.users) (x : Offtakes d.count d.consumption d.losses) (c : From (KINDS * d.count) (pos 0) (pos 0) d.consumption) (l : From (KINDS * d.count) (pos 0) (pos 0) d.losses) where
    consumption_low : none_below d.consumption ≡ true
    consumption_low = low_signs d.consumption (low_cells d.consumption d.count z.consumption (λ s l k m. (x.low s l k (omega arith) m).0) c)

    losses_low : none_below d.losses ≡ true
    losses_low = low_signs d.losses (low_cells d.losses d.count z.losses (λ s l k m. (x.low s l k (omega arith) m).1) l)

    within_limit : all_offtake (read d).users ≤ LIMIT
    within_limit = leb-true (all_offtake (read d).users) LIMIT (rw (offtakes_are d z consumption_low losses_low h.few) at x.limit)

nothing_past : (n : ℕ) (xs : List ℤ) → From n (pos 0) (pos 0) xs → none_past n xs ≡ true
nothing_past n xs h = from_every is_zero (pos 0) n xs (λ i l m. between_zero (atZ xs i) (h i l m))

no_user_past : {m : Option Measurement} {n : ℕ} {us : List ℕ} → Head m n us → every (λ k. eqb k 0) (drop n us) ≡ true
no_user_past {n = n} {us = us} h = from_every (λ k. eqb k 0) 0 n us (λ i l m. eq-eqb (get_or us i 0) 0 (h.past i l m))

-- ---- point-days once allotted

module _ (d : PointDay) (z : Sized d) (e : d.allotted ≡ true) where
  module _ (h : Head d.measurement d.count d.users) (a : Allotted d.measurement d.count d.consumption d.losses d.balance d.revision) where
    amounts_at : (s : ℕ) → s < d.count → amounts_right (user_at d s) ≡ true
    unfolding user_at
    amounts_at s l =
        both_true
        (at_every (no_more AMOUNT) (pos 0) (kinds_of s d.balance)
        (λ k m.
        let q : k < KINDS = omega (arith, kinds_long d.balance s (omega (arith, z.balance, h.few))) in
        ap (no_more AMOUNT) (get_or-take KINDS (drop (KINDS * s) d.balance) k (pos 0) q ∙ get_or-drop (KINDS * s) d.balance k (pos 0))
        ∙ le-leb (nat_abs (atZ d.balance (KINDS * s + k))) AMOUNT ((a.sizes s l).balance k (omega arith) q)))
        (le-leb (nat_abs (atZ d.revision s)) AMOUNT (a.sizes s l).revision)

    sum_is : (w : ℤ) → Between (pos 0) (pos LIMIT) w → sum_right w ≡ true
    sum_is w b = both_true (ap not (between_sign w b)) (le-leb (nat_abs w) LIMIT (low_size LIMIT w b))

    pub taken_allotted : taken d ≡ true
    taken_allotted =
        let n = numbers_are d (omega (arith, z.users, h.few)) in
        let c = consumption_low d z h a.offtakes a.past.consumption a.past.losses in
        let l = losses_low d z h a.offtakes a.past.consumption a.past.losses in
        facts_taken d record {
          few = h.few;
          named = rw n h.named;
          apart = rw n h.apart;
          past = record {
            users = no_user_past h;
            consumption = nothing_past (KINDS * d.count) d.consumption a.past.consumption;
            losses = nothing_past (KINDS * d.count) d.losses a.past.losses;
            balance = nothing_past (KINDS * d.count) d.balance a.past.balance;
            revision = nothing_past d.count d.revision a.past.revision;
          };
          measurement = h.measurement;
          consumption = c;
          losses = l;
          offtake = within_limit d z h a.offtakes a.past.consumption a.past.losses;
          entering = λ q. true≢false (sym e ∙ q);
          amounts = all_users d amounts_right amounts_at;
          wholes = ap not (all_users d (λ u. no_more AMOUNT (whole u)) (λ s m.
              le-leb (nat_abs (whole (user_at d s))) AMOUNT (rw (whole_is d z c l s (omega (arith, h.few))) (a.wholes.each s m))));
          sum = ap sum_right (wholes_are d z c l h.few) ∙ sum_is (sumZ (wholes_of d) d.count) a.wholes.sum;
          standing = λ q. (some_users d a.users, a.measured);
        }

  pub allotted_of : taken d ≡ true → Allotted d.measurement d.count d.consumption d.losses d.balance d.revision
  allotted_of q =
      let f = facts d z q in
      let t = f.standing e in
      record {
        users = t.0;
        measured = t.1;
        past = record { consumption = f.arrays.consumption.rest; losses = f.arrays.losses.rest; balance = f.arrays.balance.rest; revision = f.arrays.revision.rest };
        offtakes = offtakes_of d z q;
        sizes = λ s l. record {
          balance = λ k m n. between_size (atZ d.balance (KINDS * s + k)) (f.arrays.balance.range (KINDS * s + k) (omega arith) (omega (arith, z.balance, f.few)));
          revision = between_size (atZ d.revision s) (f.arrays.revision.range s (omega arith) (omega (arith, z.revision, f.few)));
        };
        wholes = f.wholes;
      }

-- ---- point-days while entering

zero_is : (x : ℤ) → Between (pos 0) (pos 0) x → x ≡ pos 0
zero_is (pos n) h = ap pos (omega (arith, ltb-false 0 n h.below))
zero_is (negsuc n) h = true≢false h.above

-- without balance and revision a whole amount is consumption and losses
bare_at : (cs ls bs rs : List ℤ) (s : ℕ) → ((k : ℕ) → k < KINDS → atZ bs (KINDS * s + k) ≡ pos 0) → atZ rs s ≡ pos 0 → offtake_at cs ls s ≡ whole_at cs ls bs rs s
bare_at cs ls bs rs s b r =
    sumZ_eq (λ k. atZ cs (KINDS * s + k) +ℤ atZ ls (KINDS * s + k)) (λ k. cellZ cs ls bs (KINDS * s + k)) KINDS
    (λ k m. sym (+ℤ_idr (atZ cs (KINDS * s + k) +ℤ atZ ls (KINDS * s + k))) ∙ ap (λ t. (atZ cs (KINDS * s + k) +ℤ atZ ls (KINDS * s + k)) +ℤ t) (sym (b k m)))
    ∙ sym (+ℤ_idr (sumZ (λ k. cellZ cs ls bs (KINDS * s + k)) KINDS))
    ∙ ap (λ t. sumZ (λ k. cellZ cs ls bs (KINDS * s + k)) KINDS +ℤ t) (sym r)

-- users without balance and revision
bare_list : (us : List User) → every unallotted us ≡ true → All Bare us
bare_list us e =
    all_map (λ u. unallotted u ≡ true) Bare
    (λ u h. record {
      balance = both_fst (every is_zero u.balance) _ h;
      revision = zero_is u.revision (zero_between u.revision (both_snd (every is_zero u.balance) _ h));
    })
    us (all_every unallotted us e)

zero_small : (x : ℤ) → is_zero x ≡ true → no_more AMOUNT x ≡ true
zero_small x e = le-leb (nat_abs x) AMOUNT (omega (arith, eqb-true (nat_abs x) 0 e))

small_amounts : (us : List User) → every unallotted us ≡ true → every amounts_right us ≡ true
small_amounts us e =
    every_all amounts_right us
    (all_map (λ u. unallotted u ≡ true) (λ u. amounts_right u ≡ true)
    (λ u h. both_true
    (every_all (no_more AMOUNT) u.balance (all_map (λ x. is_zero x ≡ true) (λ x. no_more AMOUNT x ≡ true) zero_small u.balance (all_every is_zero u.balance (both_fst (every is_zero u.balance) _ h))))
    (zero_small u.revision (both_snd (every is_zero u.balance) _ h)))
    us (all_every unallotted us e))

small_wholes : (us : List User) → All Bare us → all_offtake us ≤ LIMIT → All (λ u. no_more AMOUNT (whole u) ≡ true) us
unfolding total
small_wholes [] h l = tt
small_wholes (u ∷ us) h l = (rw (bare_whole u h.0) (le-leb (offtake u) AMOUNT (omega arith)), small_wholes us h.1 (omega arith))

module _ (d : PointDay) (z : Sized d) (few : d.count ≤ USERS) (b : From 0 (pos 0) (pos 0) d.balance) (r : From 0 (pos 0) (pos 0) d.revision) where
  bare_users : every unallotted (read d).users ≡ true
  bare_users = all_users d unallotted (bare d z few (b, r))

  pub bare_whole_at : (s : ℕ) → s < d.count → offtake_at d.consumption d.losses s ≡ wholes_of d s
  bare_whole_at s l =
      bare_at d.consumption d.losses d.balance d.revision s
      (λ k m. zero_is (atZ d.balance (KINDS * s + k)) (b (KINDS * s + k) (omega arith) (omega (arith, z.balance))))
      (zero_is (atZ d.revision s) (r s (omega arith) (omega (arith, z.revision))))

module _ (d : PointDay) (z : Sized d) (e : d.allotted ≡ false) where
  module _ (h : Head d.measurement d.count d.users) (x : Entering d.count d.consumption d.losses d.balance d.revision) where
    pub taken_entering : taken d ≡ true
    taken_entering =
        let us = (read d).users in
        let u = bare_users d z h.few x.balance x.revision in
        let n = numbers_are d (omega (arith, z.users, h.few)) in
        let limit = within_limit d z h x.offtakes x.consumption x.losses in
        facts_taken d record {
          few = h.few;
          named = rw n h.named;
          apart = rw n h.apart;
          past = record {
            users = no_user_past h;
            consumption = nothing_past (KINDS * d.count) d.consumption x.consumption;
            losses = nothing_past (KINDS * d.count) d.losses x.losses;
            balance = nothing_past (KINDS * d.count) d.balance (λ i l m. x.balance i (omega arith) m);
            revision = nothing_past d.count d.revision (λ i l m. x.revision i (omega arith) m);
          };
          measurement = h.measurement;
          consumption = consumption_low d z h x.offtakes x.consumption x.losses;
          losses = losses_low d z h x.offtakes x.consumption x.losses;
          offtake = limit;
          entering = λ q. u;
          amounts = small_amounts us u;
          wholes = ap not (every_all (λ u. no_more AMOUNT (whole u)) us (small_wholes us (bare_list us u) limit));
          sum = rw (bare_all us (bare_list us u)) (le-leb (all_offtake us) LIMIT limit);
          standing = λ q. true≢false (sym q ∙ e);
        }

  pub entering_of : taken d ≡ true → Entering d.count d.consumption d.losses d.balance d.revision
  entering_of q =
      let f = facts d z q in
      let s = f.entering e in
      record {
        balance = s.0;
        revision = s.1;
        consumption = f.arrays.consumption.rest;
        losses = f.arrays.losses.rest;
        offtakes = offtakes_of d z q;
      }

-- ---- the whole test

pub parts_none : (d : PointDay) → Sized d → (Facts d → ⊥) → taken d ≡ false
parts_none d z h = sym (untaken d (λ q. h (facts d z q)))

pub parts_found : (d : PointDay) → Sized d → {P : Type 0} {f : ℕ → ℤ} (before : List ℤ) (r : Option ℤ) (after : List ℤ) → Found P f d.count before r after → (P → taken d ≡ true) → (taken d ≡ true → P) → (P → (s : ℕ) → s < d.count → f s ≡ wholes_of d s)
    → TestedParts d before r after
parts_found d z before None after t g h q = sym (untaken d (λ e. t (h e)))
parts_found d z {f = f} before (Some x) after t g h q =
    let l = taken_summable d z (g t.0) in (
      g t.0,
      t.1.sum ∙ sumZ_eq f (wholes_of d) d.count (q t.0) ∙ sym (wholes_are d z l.above l.above_losses l.few),
      t.1.wholes ∙ ap (λ x. x ++ drop d.count before) (same_table f (wholes_of d) d.count (q t.0)),
    )
