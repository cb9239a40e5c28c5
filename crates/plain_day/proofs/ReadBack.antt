-- What is stored is read back: a call on the numbers of a point-day is made on that point-day. Assumes nothing.
use mathlib.Core.Path.{◌≡◌, refl, sym, ap, ◌∙◌}
use mathlib.Core.Bool.{Bool, true, false}
use mathlib.Core.List.{List, [], ◌∷◌, ◌++◌, map, append_assoc}
use Prim.Native.Nat.{ℕ, suc, ◌+◌, ◌≤◌}
use native.Mathlib.Omega.{arith}
use lib.Dec.{leb, eqb}
use lib.IntN.{ℤ, pos, nat_abs}
use lib.ListN.{length, take, drop, replicate, length-append, length-map}
use lib.Seq.{take_at, drop_at, drop-append-add, take_all}
use borrow.Author.Tests.{le-leb, eq-eqb}
use Rattle.numbers.specs.Sums.{bit, atZ}
use Rattle.numbers.specs.Lists.{every}
use Rattle.numbers.proofs.Lists.{All, true≢false, both_true}
use Rattle.numbers.proofs.Amounts.{sizes_of_pos}
use Rattle.point_day.specs.Fields.{same_fields}
use Rattle.point_day.specs.Limits.{USERS, CELLS, LAST_NUMBER}
use Rattle.point_day.specs.Day.{is_measured, measurement_right}
use Rattle.point_day.specs.Struct.{Sized, Outcome}
use Rattle.point_day.specs.declared.PointDay.{PointDay}
use Rattle.point_day.specs.declared.Stage.{Stage}
use Rattle.point_day.specs.declared.Stage.TheVariants.{Provisional, FinalProvisional, FinalDefinitive}
use Rattle.point_day.specs.declared.Measurement.{Measurement}
use Rattle.plain_day.specs.Layout.{LENGTH, EMISSION_AT, DOWNSTREAM_AT, up_to, emissions_readable, head_readable, is_readable, stage_of, measurement_of, day_in, stage_number, emission_number, downstream_number, stored, numbers_of}
use Rattle.plain_day.specs.Plain.{given, plain_call}
use Rattle.std.specs.Prelude.{Option, None, Some}

-- ---- five lists one after the other

module _ {A : Type 0} (u c l b r : List A) (eu : length u ≡ USERS) (ec : length c ≡ CELLS) (el : length l ≡ CELLS) (eb : length b ≡ CELLS) (er : length r ≡ USERS) where
  abbrev five : List A
  five = u ++ c ++ l ++ b ++ r

  regroup : five ≡ u ++ (c ++ (l ++ (b ++ r)))
  regroup = simp append_assoc

  skip : (p q : List A) (i j : ℕ) → length p ≡ i → drop (i + j) (p ++ q) ≡ drop j q
  skip p q i j e = ap (λ k. drop (k + j) (p ++ q)) (sym e) ∙ drop-append-add p q j

  first : take USERS five ≡ u
  first = ap (take USERS) regroup ∙ take_at u (c ++ (l ++ (b ++ r))) USERS eu

  second : take CELLS (drop USERS five) ≡ c
  second = ap (λ x. take CELLS (drop USERS x)) regroup ∙ ap (take CELLS) (drop_at u (c ++ (l ++ (b ++ r))) USERS eu) ∙ take_at c (l ++ (b ++ r)) CELLS ec

  third : take CELLS (drop (USERS + CELLS) five) ≡ l
  third =
      ap (λ x. take CELLS (drop (USERS + CELLS) x)) regroup
      ∙ ap (take CELLS) (skip u (c ++ (l ++ (b ++ r))) USERS CELLS eu ∙ drop_at c (l ++ (b ++ r)) CELLS ec)
      ∙ take_at l (b ++ r) CELLS el

  fourth : take CELLS (drop (USERS + (CELLS + CELLS)) five) ≡ b
  fourth =
      ap (λ x. take CELLS (drop (USERS + (CELLS + CELLS)) x)) regroup
      ∙ ap (take CELLS) (skip u (c ++ (l ++ (b ++ r))) USERS (CELLS + CELLS) eu ∙ skip c (l ++ (b ++ r)) CELLS CELLS ec ∙ drop_at l (b ++ r) CELLS el)
      ∙ take_at b r CELLS eb

  fifth : take USERS (drop (USERS + (CELLS + (CELLS + CELLS))) five) ≡ r
  fifth =
      ap (λ x. take USERS (drop (USERS + (CELLS + (CELLS + CELLS))) x)) regroup
      ∙ ap (take USERS) (skip u (c ++ (l ++ (b ++ r))) USERS (CELLS + (CELLS + CELLS)) eu ∙ skip c (l ++ (b ++ r)) CELLS (CELLS + CELLS) ec ∙ skip l (b ++ r) CELLS CELLS el ∙ drop_at b r CELLS eb)
      ∙ take_all USERS r (omega arith)

  five_long : length five ≡ USERS + (CELLS + (CELLS + (CELLS + USERS)))
  five_long = simp length-append (omega arith)

-- ---- the numbers before the arrays, read

stage_back : (s : Stage) → stage_of (stage_number s) ≡ s
stage_back Provisional = refl
stage_back FinalProvisional = refl
stage_back FinalDefinitive = refl

flag_back : (b : Bool) → eqb (bit b) 1 ≡ b
flag_back true = refl
flag_back false = refl

-- whatever stands there of an unmeasured one
measurement_back : (m : Option Measurement) (x y : ℤ) → measurement_of (bit (is_measured m)) (nat_abs (emission_number m x)) (nat_abs (downstream_number m y)) ≡ m
measurement_back None x y = refl
measurement_back (Some m) x y = refl

-- ---- and in range

stage_up : (s : Stage) → up_to 2 (pos (stage_number s)) ≡ true
unfolding up_to
stage_up Provisional = refl
stage_up FinalProvisional = refl
stage_up FinalDefinitive = refl

flag_up : (b : Bool) → up_to 1 (pos (bit b)) ≡ true
unfolding up_to
flag_up true = refl
flag_up false = refl

-- over emissions in range
emissions_up : (m : Option Measurement) (x y : ℤ) → measurement_right m ≡ true → emissions_readable x y ≡ true → emissions_readable (emission_number m x) (downstream_number m y) ≡ true
unfolding emissions_readable up_to
emissions_up None x y h k = k
emissions_up (Some m) x y h k = h

count_up : (n : ℕ) → n ≤ USERS → up_to USERS (pos n) ≡ true
unfolding up_to
count_up n h = le-leb n USERS h

users_up : (us : List ℕ) → All (λ n. n ≤ LAST_NUMBER) us → every (up_to LAST_NUMBER) (map pos us) ≡ true
unfolding every up_to
users_up [] h = refl
users_up (u ∷ us) h = both_true {p = leb u LAST_NUMBER} (le-leb u LAST_NUMBER h.0) (users_up us h.1)

-- ---- the point-day

-- what numbers say of a point-day: its arrays' lengths, at most 64 users, user numbers of 16 bits, emissions within their limits
pub record Stores (d : PointDay) : Type 0 where
  pub sized : Sized d
  pub few : d.count ≤ USERS
  pub users : All (λ n. n ≤ LAST_NUMBER) d.users
  pub measurement : measurement_right d.measurement ≡ true

module _ (d : PointDay) (s : Stores d) where
  z : Sized d
  z = s.sized

  eu : length (map pos d.users) ≡ USERS
  eu = length-map d.users pos ∙ z.users

  -- whatever numbers stood there before
  pub stored_back : (xs : List ℤ) → day_in (stored d xs) ≡ d
  unfolding day_in stored
  stored_back xs =
      let u = map pos d.users in
      let c = d.consumption in
      let l = d.losses in
      let b = d.balance in
      let r = d.revision in
      same_fields (record {
        stage = stage_back d.stage;
        allotted = flag_back d.allotted;
        measurement = measurement_back d.measurement (atZ xs EMISSION_AT) (atZ xs DOWNSTREAM_AT);
        count = refl;
        users = ap (map nat_abs) (first u c l b r eu z.consumption z.losses z.balance z.revision) ∙ sizes_of_pos d.users;
        consumption = second u c l b r eu z.consumption z.losses z.balance z.revision;
        losses = third u c l b r eu z.consumption z.losses z.balance z.revision;
        balance = fourth u c l b r eu z.consumption z.losses z.balance z.revision;
        revision = fifth u c l b r eu z.consumption z.losses z.balance z.revision;
      })

  -- emissions in range among them
  pub stored_readable : (xs : List ℤ) → emissions_readable (atZ xs EMISSION_AT) (atZ xs DOWNSTREAM_AT) ≡ true → is_readable (stored d xs) ≡ true
  unfolding is_readable head_readable stored
  stored_readable xs h =
      let u = map pos d.users in
      let c = d.consumption in
      let l = d.losses in
      let b = d.balance in
      let r = d.revision in
      let n = five_long u c l b r eu z.consumption z.losses z.balance z.revision in
      both_true (eq-eqb _ LENGTH (ap (λ k. suc (suc (suc (suc (suc (suc k)))))) n))
      (both_true
      (both_true (stage_up d.stage) (both_true (flag_up d.allotted) (both_true (flag_up (is_measured d.measurement)) (both_true (emissions_up d.measurement (atZ xs EMISSION_AT) (atZ xs DOWNSTREAM_AT) s.measurement h) (count_up d.count s.few)))))
      (ap (every (up_to LAST_NUMBER)) (first u c l b r eu z.consumption z.losses z.balance z.revision) ∙ users_up d.users s.users))

  -- the next call is made on the point-day itself
  pub call_stored : (xs : List ℤ) → emissions_readable (atZ xs EMISSION_AT) (atZ xs DOWNSTREAM_AT) ≡ true
      → (call : PointDay → Outcome) (vs : List ℤ) → plain_call call vs (stored d xs) ≡ given (call d).answer (call d).day vs (stored d xs)
  unfolding plain_call
  call_stored xs h call vs = rw (stored_readable xs h, stored_back xs)

  -- ---- its numbers, with zeros for emissions that it has not

  pub read_back : day_in (numbers_of d) ≡ d
  read_back = stored_back (replicate LENGTH (pos 0))

  pub next_call : (call : PointDay → Outcome) (vs : List ℤ) → plain_call call vs (numbers_of d) ≡ given (call d).answer (call d).day vs (numbers_of d)
  next_call call vs = call_stored (replicate LENGTH (pos 0)) (unfold emissions_readable up_to in refl) call vs

-- ---- stored in the place of the numbers of another

emission_over : (m m' : Option Measurement) (x : ℤ) → (is_measured m ≡ true → is_measured m' ≡ true) → emission_number m' (emission_number m x) ≡ emission_number m' x
emission_over None m' x h = refl
emission_over (Some m) None x h = true≢false (sym (h refl))
emission_over (Some m) (Some m') x h = refl

downstream_over : (m m' : Option Measurement) (x : ℤ) → (is_measured m ≡ true → is_measured m' ≡ true) → downstream_number m' (downstream_number m x) ≡ downstream_number m' x
downstream_over None m' x h = refl
downstream_over (Some m) None x h = true≢false (sym (h refl))
downstream_over (Some m) (Some m') x h = refl

-- after a call that keeps the measurement or sets it
pub stored_twice : (d d' : PointDay) (xs : List ℤ) → (is_measured d.measurement ≡ true → is_measured d'.measurement ≡ true) → stored d' (stored d xs) ≡ stored d' xs
unfolding stored
stored_twice d d' xs h = rw (emission_over d.measurement d'.measurement (atZ xs EMISSION_AT) h, downstream_over d.measurement d'.measurement (atZ xs DOWNSTREAM_AT) h)

pub stored_over : (d d' : PointDay) → (is_measured d.measurement ≡ true → is_measured d'.measurement ≡ true) → stored d' (numbers_of d) ≡ numbers_of d'
stored_over d d' h = stored_twice d d' (replicate LENGTH (pos 0)) h
