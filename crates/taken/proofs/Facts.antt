-- What a taken point-day has, place by place. Assumes nothing.
use mathlib.Core.Path.{◌≡◌, refl, sym, ap, subst, ◌∙◌}
use mathlib.Core.Bool.{Bool, true, false, not}
use mathlib.Core.List.{List, [], ◌∷◌, ◌++◌, map}
use mathlib.Core.Logic.{⊎_elim}
use Prim.Native.Nat.{ℕ, ◌+◌, ◌*◌, ◌/◌, ◌%◌, ◌≤◌, ◌<◌}
use native.Mathlib.Omega.{arith}
use lib.Dec.{eqb}
use lib.IntN.{ℤ, pos, neg_ℤ, nat_abs}
use lib.ListN.{length, get_or, take, drop, get_or-map}
use lib.Seq.{get_or-take, get_or-drop, take_at}
use mir.Syntax.{w64}
use mir.Val.{of_z, to_z}
use borrow.Author.Tests.{le-leb, leb-true, eqb-true, not-true, not-false}
use Rattle.numbers.specs.Sums.{sumZ, table, atZ, total}
use Rattle.numbers.specs.Lists.{every, has, distinct}
use Rattle.numbers.specs.Amounts.{Within, Between, Decides, is_negative}
use Rattle.numbers.proofs.Amounts.{back, pos_size}
use Rattle.numbers.proofs.Places.{every_at, at_every, every_from}
use Rattle.numbers.proofs.Sums.{lt_or_ge, length_table, getD_table, table_take, at_total}
use Rattle.numbers.proofs.Lists.{true≢false, both_fst, both_snd, both_true, every_all, all_table}
use Rattle.point_day.specs.Limits.{USERS, CELLS, KINDS, LIMIT, AMOUNT}
use Rattle.point_day.specs.Day.{User, numbers, all_offtake, whole, all_whole, some, is_measured, no_more, is_zero, measurement_right, too_large}
use Rattle.point_day.specs.Struct.{Sized, kinds_of, user_at, read, none_past, none_below, unallotted, amounts_right, sum_right, taken}
use Rattle.point_day.specs.declared.Measurement.{Measurement}
use Rattle.point_day.specs.declared.PointDay.{PointDay}
use Rattle.point_day.proofs.Taken.{Taken, taken_facts}
use Rattle.point_day.proofs.Sound.{bare_all, taken_sound}
use Rattle.point_day.proofs.Back.{map_table, every_take, every_drop}
use Rattle.state.specs.Places.{From, ROOM, Small, Summable, Lengths, whole_at}
use Rattle.state.proofs.Cells.{zero_between, between_zero, between_sign, low_size, nonneg_between, between_size, size_between, within_from, low_from}
use Rattle.state.proofs.Totals.{kinds_long, offtake_is, whole_is, wholes_are}
use Rattle.point_day.specs.Fields.{point_day}
use Rattle.taken.specs.Tested.{Known, StateOf, FindsOf, Wholes, any_large}
use Rattle.taken.specs.declared.State.{State}
use Rattle.point_day.specs.declared.Stage.{Stage}
use Rattle.std.specs.Prelude.{Option, Result, Ok, Err, IfOk}
use Rattle.numbers.specs.declared.Refusal.{Refusal}

-- every amount in low .. high, and 0 from place n on
pub record Cells (low high : ℤ) (n : ℕ) (xs : List ℤ) : Type 0 where
  pub range : From 0 low high xs
  pub rest : From n (pos 0) (pos 0) xs

-- the four arrays of n users
pub record Arrays (n : ℕ) (cs ls bs rs : List ℤ) : Type 0 where
  pub consumption : Cells (pos 0) (pos LIMIT) (KINDS * n) cs
  pub losses : Cells (pos 0) (pos LIMIT) (KINDS * n) ls
  pub balance : Cells (neg_ℤ (pos AMOUNT)) (pos AMOUNT) (KINDS * n) bs
  pub revision : Cells (neg_ℤ (pos AMOUNT)) (pos AMOUNT) n rs

abbrev pub wholes_of : PointDay → ℕ → ℤ
wholes_of d = whole_at d.consumption d.losses d.balance d.revision

-- what a taken point-day has, place by place
pub record Facts (d : PointDay) : Type 0 where
  pub few : d.count ≤ USERS
  pub past : (i : ℕ) → d.count ≤ i → i < length d.users → get_or d.users i 0 ≡ 0
  pub named : has 0 (take d.count d.users) ≡ false
  pub apart : distinct (take d.count d.users) ≡ true
  pub arrays : Arrays d.count d.consumption d.losses d.balance d.revision
  pub measurement : measurement_right d.measurement ≡ true
  pub offtake : total (map nat_abs d.consumption) + total (map nat_abs d.losses) ≤ LIMIT
  pub wholes : Wholes d.count (wholes_of d)
  pub standing : d.allotted ≡ true → (d.count ≡ 0 → ⊥) × (is_measured d.measurement ≡ true)
  pub entering : d.allotted ≡ false → From 0 (pos 0) (pos 0) d.balance × From 0 (pos 0) (pos 0) d.revision

-- ---- the user numbers

pub numbers_are : (d : PointDay) → d.count ≤ length d.users → numbers (read d).users ≡ take d.count d.users
unfolding read user_at
numbers_are d l = map_table (λ (u : User). u.number) (user_at d) d.count ∙ table_take 0 d.users d.count l

-- ---- the users one by one

every_user : (d : PointDay) (p : User → Bool) → every p (read d).users ≡ true → (s : ℕ) → s < d.count → p (user_at d s) ≡ true
unfolding read
every_user d p e s l =
    ap p (sym (getD_table (user_at d) d.count s (user_at d s) l)) ∙ every_at p (user_at d s) (table (user_at d) d.count) e s (omega (arith, length_table (user_at d) d.count))

pub all_users : (d : PointDay) (p : User → Bool) → ((s : ℕ) → s < d.count → p (user_at d s) ≡ true) → every p (read d).users ≡ true
unfolding read
all_users d p h = every_all p (table (user_at d) d.count) (all_table (λ u. p u ≡ true) (user_at d) d.count h)

pub some_users : (d : PointDay) → (d.count ≡ 0 → ⊥) → some (read d).users ≡ true
unfolding read
some_users d h = go (table (user_at d) d.count) (length_table (user_at d) d.count)
  where
    go : (us : List User) → length us ≡ d.count → some us ≡ true
    go [] e = absurd (h (sym e))
    go (u ∷ us) e = refl

users_some : (d : PointDay) → some (read d).users ≡ true → d.count ≡ 0 → ⊥
unfolding read
users_some d e h = go (table (user_at d) d.count) (length_table (user_at d) d.count) e
  where
    go : (us : List User) → length us ≡ d.count → some us ≡ true → ⊥
    go [] l t = true≢false (sym t)
    go (u ∷ us) l t = omega arith

-- every cell of an array whose slots are right, and past them
cells_at : (p : ℤ → Bool) (n : ℕ) (xs : List ℤ) → length xs ≡ CELLS → n ≤ USERS → ((s : ℕ) → s < n → every p (kinds_of s xs) ≡ true) → ((i : ℕ) → KINDS * n ≤ i → i < length xs → p (atZ xs i) ≡ true)
    → (i : ℕ) → i < length xs → p (atZ xs i) ≡ true
cells_at p n xs z m h k i l =
    ⊎_elim
    (λ q.
    let e : 5 * (i / 5) + i % 5 ≡ i = omega arith in
    let one = every_at p (pos 0) (kinds_of (i / 5) xs) (h (i / 5) (omega arith)) (i % 5) (omega (arith, kinds_long xs (i / 5) (omega arith))) in
    ap p (ap (atZ xs) (sym e) ∙ sym (get_or-drop (5 * (i / 5)) xs (i % 5) (pos 0)) ∙ sym (get_or-take 5 (drop (5 * (i / 5)) xs) (i % 5) (pos 0) (omega arith))) ∙ one)
    (λ q. k i q l)
    (lt_or_ge i (5 * n))

slot_cells : (p : ℤ → Bool) (xs : List ℤ) (s : ℕ) → every p xs ≡ true → every p (kinds_of s xs) ≡ true
slot_cells p xs s e = every_take p KINDS (drop (KINDS * s) xs) (every_drop p (KINDS * s) xs e)

signs_right : (xs : List ℤ) → From 0 (pos 0) (pos LIMIT) xs → none_below xs ≡ true
signs_right xs h = at_every (λ z. not (is_negative z)) (pos 0) xs (λ i l. ap not (between_sign (atZ xs i) (h i (omega arith) l)))

-- neither balance nor revision
pub bare : (d : PointDay) → Sized d → d.count ≤ USERS → From 0 (pos 0) (pos 0) d.balance × From 0 (pos 0) (pos 0) d.revision → (s : ℕ) → s < d.count → unallotted (user_at d s) ≡ true
unfolding user_at
bare d z f b s l =
    both_true
    (slot_cells is_zero d.balance s (at_every is_zero (pos 0) d.balance (λ i m. between_zero (atZ d.balance i) (b.0 i (omega arith) m))))
    (between_zero (atZ d.revision s) (b.1 s (omega arith) (omega (arith, z.revision))))

-- ---- from the sentence to its places

module _ (d : PointDay) (z : Sized d) (t : Taken d) where
  rest_of : (n : ℕ) (xs : List ℤ) → none_past n xs ≡ true → From n (pos 0) (pos 0) xs
  rest_of n xs e i l m = zero_between (atZ xs i) (every_from is_zero (pos 0) n xs e i l m)

  cell_small : (xs : List ℤ) (m : ℕ) → total (map nat_abs xs) ≤ m → (i : ℕ) → i < length xs → nat_abs (atZ xs i) ≤ m
  cell_small xs m l i k = omega (arith, rw (get_or-map nat_abs xs i (pos 0)) at (at_total (map nat_abs xs) i))

  totals : total (map nat_abs d.consumption) + total (map nat_abs d.losses) ≤ LIMIT
  totals = rw (offtake_is d t.past.consumption t.past.losses) at t.offtake

  low_cells : (xs : List ℤ) → none_below xs ≡ true → none_past (KINDS * d.count) xs ≡ true → total (map nat_abs xs) ≤ LIMIT → Cells (pos 0) (pos LIMIT) (KINDS * d.count) xs
  low_cells xs b p m = record {
    range = λ i l q. nonneg_between LIMIT (atZ xs i) (not-true _ (every_at (λ z. not (is_negative z)) (pos 0) xs b i q)) (cell_small xs LIMIT m i q);
    rest = rest_of (KINDS * d.count) xs p;
  }

  amounts_of : (s : ℕ) → s < d.count → (every (no_more AMOUNT) (kinds_of s d.balance) ≡ true) × (no_more AMOUNT (atZ d.revision s) ≡ true)
  unfolding user_at
  amounts_of s l =
      let h = every_user d amounts_right t.amounts s l in
      (both_fst (every (no_more AMOUNT) (kinds_of s d.balance)) _ h, both_snd (every (no_more AMOUNT) (kinds_of s d.balance)) _ h)

  zero_small : (z : ℤ) → Between (pos 0) (pos 0) z → no_more AMOUNT z ≡ true
  zero_small z h = le-leb (nat_abs z) AMOUNT (omega (arith, low_size 0 z h))

  balance_cells : Cells (neg_ℤ (pos AMOUNT)) (pos AMOUNT) (KINDS * d.count) d.balance
  balance_cells =
      let rest = rest_of (KINDS * d.count) d.balance t.past.balance in
      record {
        range = λ i l q. size_between (atZ d.balance i)
            (leb-true (nat_abs (atZ d.balance i)) AMOUNT (cells_at (no_more AMOUNT) d.count d.balance z.balance t.few (λ s l. (amounts_of s l).0) (λ i l q. zero_small _ (rest i l q)) i q));
        rest = rest;
      }

  revision_cells : Cells (neg_ℤ (pos AMOUNT)) (pos AMOUNT) d.count d.revision
  revision_cells =
      let rest = rest_of d.count d.revision t.past.revision in
      record {
        range = λ i l q. size_between (atZ d.revision i)
            (leb-true (nat_abs (atZ d.revision i)) AMOUNT (⊎_elim (λ m. (amounts_of i m).1) (λ m. zero_small _ (rest i m q)) (lt_or_ge i d.count)));
        rest = rest;
      }

  bare_of : every unallotted (read d).users ≡ true → (s : ℕ) → s < d.count → (every is_zero (kinds_of s d.balance) ≡ true) × (is_zero (atZ d.revision s) ≡ true)
  unfolding user_at
  bare_of e s l =
      let h = every_user d unallotted e s l in
      (both_fst (every is_zero (kinds_of s d.balance)) _ h, both_snd (every is_zero (kinds_of s d.balance)) _ h)

  entering_zeros : d.allotted ≡ false → From 0 (pos 0) (pos 0) d.balance × From 0 (pos 0) (pos 0) d.revision
  entering_zeros e =
      let b = bare_of (t.entering e) in (
        λ i l q. zero_between (atZ d.balance i)
            (cells_at is_zero d.count d.balance z.balance t.few (λ s l. (b s l).0) (every_from is_zero (pos 0) (KINDS * d.count) d.balance t.past.balance) i q),
        λ i l q. zero_between (atZ d.revision i)
            (⊎_elim (λ m. (b i m).1) (λ m. every_from is_zero (pos 0) d.count d.revision t.past.revision i m q) (lt_or_ge i d.count)),
      )

  sum_of : (w : ℤ) → sum_right w ≡ true → Between (pos 0) (pos LIMIT) w
  sum_of w e = nonneg_between LIMIT w (not-true _ (both_fst (not (is_negative w)) _ e)) (leb-true (nat_abs w) LIMIT (both_snd (not (is_negative w)) _ e))

  facts_of : Facts d
  facts_of = record {
    few = t.few;
    past = λ i l m. eqb-true (get_or d.users i 0) 0 (every_from (λ n. eqb n 0) 0 d.count d.users t.past.users i l m);
    named = rw (numbers_are d (omega (arith, z.users, t.few))) at t.named;
    apart = rw (numbers_are d (omega (arith, z.users, t.few))) at t.apart;
    arrays = record {
      consumption = low_cells d.consumption t.consumption t.past.consumption (omega (arith, totals));
      losses = low_cells d.losses t.losses t.past.losses (omega (arith, totals));
      balance = balance_cells;
      revision = revision_cells;
    };
    measurement = t.measurement;
    offtake = totals;
    wholes = record {
      each = λ s l. rw (whole_is d z t.consumption t.losses s (omega (arith, t.few))) at
          (leb-true (nat_abs (whole (user_at d s))) AMOUNT (every_user d (λ u. no_more AMOUNT (whole u)) (not-false _ t.wholes) s l));
      sum = sum_of (sumZ (wholes_of d) d.count) (sym (ap sum_right (wholes_are d z t.consumption t.losses t.few)) ∙ t.sum);
    };
    standing = λ e. (users_some d (t.standing e).0, (t.standing e).1);
    entering = entering_zeros;
  }

pub facts : (d : PointDay) → Sized d → taken d ≡ true → Facts d
facts d z e = facts_of d z (taken_facts d e)

-- the lengths of the point-day are those of the point-day
pub parts_sized : (stage : Stage) {allotted : Bool} {m : Option Measurement} {n : ℕ} {us : List ℕ} {cs ls bs rs : List ℤ} → length us ≡ USERS → Lengths cs ls bs rs → Sized (point_day stage allotted m n us cs ls bs rs)
parts_sized stage u l = record { users = u; consumption = l.consumption; losses = l.losses; balance = l.balance; revision = l.revision }

pub untaken : (d : PointDay) → (taken d ≡ true → ⊥) → false ≡ taken d
untaken d h = go (taken d) refl
  where
    go : (p : Bool) → taken d ≡ p → false ≡ p
    go true e = absurd (h e)
    go false e = refl

-- ---- what the calls use

small_parts : {n : ℕ} {cs ls bs rs : List ℤ} → Arrays n cs ls bs rs → Small cs × Small ls × Small bs × Small rs
small_parts {cs = cs} {ls = ls} {bs = bs} {rs = rs} a = (
  low_from LIMIT cs a.consumption.range ROOM (omega arith),
  low_from LIMIT ls a.losses.range ROOM (omega arith),
  within_from AMOUNT bs (λ i l q. between_size (atZ bs i) (a.balance.range i l q)) ROOM (omega arith),
  within_from AMOUNT rs (λ i l q. between_size (atZ rs i) (a.revision.range i l q)) ROOM (omega arith),
)

summable_day : (d : PointDay) → Sized d → d.count ≤ USERS → Arrays d.count d.consumption d.losses d.balance d.revision → Summable d
summable_day d z l a = record {
  few = l;
  consumption = (small_parts a).0;
  losses = (small_parts a).1;
  balance = (small_parts a).2;
  revision = (small_parts a).3;
  above = signs_right d.consumption a.consumption.range;
  above_losses = signs_right d.losses a.losses.range;
}

-- the sum of the whole amounts of a taken point-day
module _ (d : PointDay) (z : Sized d) (e : taken d ≡ true) where
  pub taken_summable : Summable d
  taken_summable = summable_day d z (facts d z e).few (facts d z e).arrays

  -- as the code holds it
  pub sum_kept : {x : ℤ} → x ≡ all_whole (read d).users → to_z w64 (of_z w64 x) ≡ all_whole (read d).users
  sum_kept {x} q =
      let h : Within LIMIT x = record { size = rw q (leb-true (nat_abs (all_whole (read d).users)) LIMIT (both_snd (not (is_negative (all_whole (read d).users))) _ (taken_facts d e).sum)) } in
      back h (omega arith) ∙ q

-- the first n of a column that is filled so far
pub first_wholes : (f : ℕ → ℤ) (n : ℕ) (before : List ℤ) {xs : List ℤ} → xs ≡ table f n ++ drop n before → take n xs ≡ table f n
first_wholes f n before e = ap (take n) e ∙ take_at (table f n) (drop n before) n (length_table f n)

-- what is known of a taken point-day
pub known_few : {d : PointDay} {s : State} → Known d s → s.count ≤ USERS
known_few {d} k = omega (arith, (taken_facts d k.is_taken).few, k.count)

pub known_measurement : {d : PointDay} {s : State} → Known d s → measurement_right s.measurement ≡ true
known_measurement {d} k = rw (← k.measurement) (taken_facts d k.is_taken).measurement

pub known_sum : {d : PointDay} {s : State} → Known d s → sum_right s.sum ≡ true
known_sum {d} k = ap sum_right k.sum ∙ (taken_facts d k.is_taken).sum

-- what holds of all that a test can find, holds of what it found, if it found anything
pub if_taken : {d : PointDay} {P : State → Type 0} (t : Result State Refusal) → ((s : State) → Known d s → P s) → StateOf d t → IfOk t P
if_taken (Ok s) f k = f s k
if_taken (Err r) f k = tt

-- the tests of a call on a point-day that is not taken
pub finds_untaken : {t : Result State Refusal} {r : Refusal} {Q : Type 0} {P : PointDay → Type 0} → t ≡ Err r → Q → ((d : PointDay) → taken d ≡ false → P d) → FindsOf t Q P
finds_untaken {t} {r} e q f = record {
  none = rw e q;
  of = λ d k. f d (subst (λ x. StateOf d x) e k).0;
}

-- the sum of the whole amounts of a taken point-day, as a number of 64 bits
pub sum_fits : (z : ℤ) → sum_right z ≡ true → (to_z w64 (of_z w64 z) ≡ pos (nat_abs z)) × (nat_abs z ≤ LIMIT)
sum_fits z e =
    let l = leb-true (nat_abs z) LIMIT (both_snd (not (is_negative z)) _ e) in
    (back (record { size = l }) (omega arith) ∙ pos_size z (not-true _ (both_fst (not (is_negative z)) _ e)), l)

-- an entering point-day: the sum of its whole amounts is its consumption and losses
pub entering_sum : (d : PointDay) → Sized d → taken d ≡ true → d.allotted ≡ false → all_whole (read d).users ≡ pos (all_offtake (read d).users)
entering_sum d z t e = bare_all (read d).users ((taken_sound d z (taken_facts d t)).entering (unfold read in e))

-- refusal 12, on a column of whole amounts
sizes_decided : (xs : List ℤ) → Decides (every (no_more AMOUNT) xs) (From 0 (neg_ℤ (pos AMOUNT)) (pos AMOUNT) xs)
sizes_decided xs = record {
  yes = λ t i l m. size_between (atZ xs i) (leb-true (nat_abs (atZ xs i)) AMOUNT (every_at (no_more AMOUNT) (pos 0) xs t i m));
  no = λ t h. true≢false
      (sym (at_every (no_more AMOUNT) (pos 0) xs (λ i l. le-leb (nat_abs (atZ xs i)) AMOUNT (between_size (atZ xs i) (h i (omega arith) l)))) ∙ t);
}

-- refusal 12
module _ (d : PointDay) (z : Sized d) (l : Summable d) (xs : List ℤ) (e : xs ≡ table (wholes_of d) d.count) where
  small_at : (s : ℕ) → s < d.count → nat_abs (atZ xs s) ≡ nat_abs (whole (user_at d s))
  small_at s m =
      ap nat_abs (ap (λ t. atZ t s) e ∙ getD_table (wholes_of d) d.count s (pos 0) m ∙ sym (whole_is d z l.above l.above_losses s (omega (arith, l.few))))

  pub too_large_by : (r : Bool) → Decides r (From 0 (neg_ℤ (pos AMOUNT)) (pos AMOUNT) xs) → not r ≡ too_large (read d).users
  too_large_by true h =
      sym (ap not (all_users d (λ u. no_more AMOUNT (whole u))
      (λ s m. le-leb (nat_abs (whole (user_at d s))) AMOUNT (rw (← small_at s m) (between_size (atZ xs s) (h.yes refl s (omega arith) (omega (arith, ap length e, length_table (wholes_of d) d.count))))))))
  too_large_by false h = go (every (λ u. no_more AMOUNT (whole u)) (read d).users) refl
    where
      go : (p : Bool) → every (λ u. no_more AMOUNT (whole u)) (read d).users ≡ p → true ≡ not p
      go true q =
          absurd
          (h.no refl
          (λ s m k.
          let n : s < d.count = omega (arith, ap length e, length_table (wholes_of d) d.count) in
          size_between (atZ xs s) (rw (small_at s n) (leb-true (nat_abs (whole (user_at d s))) AMOUNT (every_user d (λ u. no_more AMOUNT (whole u)) q s n)))))
      go false q = refl

-- the column of the users' whole amounts
pub any_large_is : (d : PointDay) → Sized d → Summable d → (xs : List ℤ) → xs ≡ table (wholes_of d) d.count → any_large xs ≡ too_large (read d).users
any_large_is d z l xs e = too_large_by d z l xs e (every (no_more AMOUNT) xs) (sizes_decided xs)
