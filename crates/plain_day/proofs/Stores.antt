-- A store into the numbers of a point-day is a store into its field. Assumes nothing.
use mathlib.Core.Path.{◌≡◌, refl, sym, ap, ap₂, ◌∙◌}
use mathlib.Core.Bool.{Bool}
use mathlib.Core.List.{List, [], ◌∷◌, ◌++◌, map, append_assoc, append-nil}
use Prim.Native.Nat.{ℕ, zero, suc, ◌+◌, ◌-◌, ◌≤◌, ◌<◌}
use native.Mathlib.Omega.{arith}
use lib.IntN.{ℤ, pos}
use lib.ListN.{length, take, drop, set, replicate, length-append, length-map, drop_of_length-le, replicate-append-replicate, get_or-append}
use lib.Seq.{take-append-le, drop-append-le, take_at, drop-append-add, get_or-append-add, set-append_left}
use Rattle.numbers.specs.Sums.{bit, atZ}
use Rattle.numbers.proofs.Lists.{map_append, set_append_right}
use Rattle.point_day.specs.Limits.{USERS, CELLS}
use Rattle.point_day.specs.Fields.{set_stage, set_allotted, set_measurement, set_count, set_users, set_consumption, set_losses, set_balance, set_revision}
use Rattle.point_day.specs.Day.{is_measured}
use Rattle.point_day.specs.Struct.{Sized}
use Rattle.point_day.specs.declared.PointDay.{PointDay}
use Rattle.point_day.specs.declared.Stage.{Stage}
use Rattle.point_day.proofs.Padding.{map_set}
use Rattle.plain_day.specs.Layout.{LENGTH, STAGE_AT, ALLOTTED_AT, MEASURED_AT, EMISSION_AT, DOWNSTREAM_AT, COUNT_AT, USERS_AT, CONSUMPTION_AT, LOSSES_AT, BALANCE_AT, REVISION_AT, put, stage_number, emission_number, downstream_number, stored}
use Rattle.point_day.specs.Day.{metered}

-- ---- a store into a part of a list

set_at_part : {A : Type 0} (n : ℕ) (xs ys : List A) (i : ℕ) (a : A) → length xs ≡ n → set (xs ++ ys) (n + i) a ≡ xs ++ set ys i a
set_at_part n xs ys i a e = ap (λ k. set (xs ++ ys) (k + i) a) (sym e) ∙ set_append_right xs ys i a

at_part : (n : ℕ) (xs ys : List ℤ) (i : ℕ) → length xs ≡ n → atZ (xs ++ ys) (n + i) ≡ atZ ys i
at_part n xs ys i e = ap (λ k. atZ (xs ++ ys) (k + i)) (sym e) ∙ get_or-append-add xs ys i (pos 0)

put_left : {A : Type 0} (n : ℕ) (new xs ys : List A) → n + length new ≤ length xs → put n new (xs ++ ys) ≡ put n new xs ++ ys
put_left n new xs ys l =
    ap₂ (λ s t. s ++ new ++ t) (take-append-le n xs ys (omega arith)) (drop-append-le (n + length new) xs ys l)
    ∙ sym (append_assoc (take n xs ++ new) (drop (n + length new) xs) ys)

put_start : {A : Type 0} (n : ℕ) (new a b : List A) → length a ≡ n → put n new (a ++ b) ≡ a ++ new ++ drop (length new) b
put_start n new a b e =
    ap₂ (λ s t. s ++ new ++ t) (take_at a b n e) (ap (λ k. drop (k + length new) (a ++ b)) (sym e) ∙ drop-append-add a b (length new))

put_whole : {A : Type 0} (n : ℕ) (new a b : List A) → length a ≡ n → length new ≡ length b → put n new (a ++ b) ≡ a ++ new
put_whole n new a b e f = put_start n new a b e ∙ ap (λ t. a ++ new ++ t) (drop_of_length-le b {i = length new} (omega arith)) ∙ append-nil (a ++ new)

-- ---- five parts

module _ (f c l b r : List ℤ) where
  abbrev parts : List ℤ
  parts = f ++ c ++ l ++ b ++ r

  long_2 : length (f ++ c) ≡ length f + length c
  long_2 = length-append f c

  long_3 : length (f ++ c ++ l) ≡ length f + length c + length l
  long_3 = length-append (f ++ c) l ∙ ap (λ k. k + length l) long_2

  long_4 : length (f ++ c ++ l ++ b) ≡ length f + length c + length l + length b
  long_4 = length-append (f ++ c ++ l) b ∙ ap (λ k. k + length b) long_3

  set_f : (i : ℕ) (y : ℤ) → i < length f → set parts i y ≡ set f i y ++ c ++ l ++ b ++ r
  set_f i y h =
      set-append_left (f ++ c ++ l ++ b) r i y (omega (arith, long_4))
      ∙ ap (λ t. t ++ r) (set-append_left (f ++ c ++ l) b i y (omega (arith, long_3))
      ∙ ap (λ t. t ++ b) (set-append_left (f ++ c) l i y (omega (arith, long_2))
      ∙ ap (λ t. t ++ l) (set-append_left f c i y h)))

  set_c : (n i : ℕ) (y : ℤ) → length f ≡ n → i < length c → set parts (n + i) y ≡ f ++ set c i y ++ l ++ b ++ r
  set_c n i y e h =
      set-append_left (f ++ c ++ l ++ b) r (n + i) y (omega (arith, long_4))
      ∙ ap (λ t. t ++ r) (set-append_left (f ++ c ++ l) b (n + i) y (omega (arith, long_3))
      ∙ ap (λ t. t ++ b) (set-append_left (f ++ c) l (n + i) y (omega (arith, long_2))
      ∙ ap (λ t. t ++ l) (set_at_part n f c i y e)))

  set_l : (n i : ℕ) (y : ℤ) → length f + length c ≡ n → i < length l → set parts (n + i) y ≡ f ++ c ++ set l i y ++ b ++ r
  set_l n i y e h =
      set-append_left (f ++ c ++ l ++ b) r (n + i) y (omega (arith, long_4))
      ∙ ap (λ t. t ++ r) (set-append_left (f ++ c ++ l) b (n + i) y (omega (arith, long_3))
      ∙ ap (λ t. t ++ b) (set_at_part n (f ++ c) l i y (long_2 ∙ e)))

  at_c : (n i : ℕ) → length f ≡ n → i < length c → atZ parts (n + i) ≡ atZ c i
  at_c n i e h =
      get_or-append (f ++ c ++ l ++ b) r (pos 0) (n + i) (omega (arith, long_4))
      ∙ get_or-append (f ++ c ++ l) b (pos 0) (n + i) (omega (arith, long_3))
      ∙ get_or-append (f ++ c) l (pos 0) (n + i) (omega (arith, long_2))
      ∙ at_part n f c i e

  at_l : (n i : ℕ) → length f + length c ≡ n → i < length l → atZ parts (n + i) ≡ atZ l i
  at_l n i e h =
      get_or-append (f ++ c ++ l ++ b) r (pos 0) (n + i) (omega (arith, long_4))
      ∙ get_or-append (f ++ c ++ l) b (pos 0) (n + i) (omega (arith, long_3))
      ∙ at_part n (f ++ c) l i (long_2 ∙ e)

  put_f : (n : ℕ) (new : List ℤ) → n + length new ≤ length f → put n new parts ≡ put n new f ++ c ++ l ++ b ++ r
  put_f n new h =
      put_left n new (f ++ c ++ l ++ b) r (omega (arith, long_4))
      ∙ ap (λ t. t ++ r) (put_left n new (f ++ c ++ l) b (omega (arith, long_3))
      ∙ ap (λ t. t ++ b) (put_left n new (f ++ c) l (omega (arith, long_2))
      ∙ ap (λ t. t ++ l) (put_left n new f c h)))

  put_b : (n : ℕ) (new : List ℤ) → length f + length c + length l ≡ n → length new ≡ length b → put n new parts ≡ f ++ c ++ l ++ new ++ r
  put_b n new e h =
      put_left n new (f ++ c ++ l ++ b) r (omega (arith, long_4))
      ∙ ap (λ t. t ++ r) (put_whole n new (f ++ c ++ l) b (long_3 ∙ e) h)

  put_r : (n : ℕ) (new : List ℤ) → length f + length c + length l + length b ≡ n → length new ≡ length r → put n new parts ≡ f ++ c ++ l ++ b ++ new
  put_r n new e h = put_whole n new (f ++ c ++ l ++ b) r (long_4 ∙ e) h

  -- as many zeros for all but the first
  cleared : (n k : ℕ) → length f ≡ n → length c + length l + length b + length r ≡ k
      → take n parts ++ replicate k (pos 0) ≡ f ++ replicate (length c) (pos 0) ++ replicate (length l) (pos 0) ++ replicate (length b) (pos 0) ++ replicate (length r) (pos 0)
  cleared n k e h =
      ap₂ (λ s t. s ++ t)
      (take-append-le n (f ++ c ++ l ++ b) r (omega (arith, long_4)) ∙ take-append-le n (f ++ c ++ l) b (omega (arith, long_3)) ∙ take-append-le n (f ++ c) l (omega (arith, long_2)) ∙ take_at f c n e)
      (ap (λ j. replicate j (pos 0)) (sym h))
      ∙ sym
      (append_assoc (f ++ zs c ++ zs l) (zs b) (zs r)
      ∙ ap (λ t. f ++ zs c ++ zs l ++ t) (replicate-append-replicate (length b) (length r) (pos 0))
      ∙ append_assoc (f ++ zs c) (zs l) (replicate (length b + length r) (pos 0))
      ∙ ap (λ t. f ++ zs c ++ t) (replicate-append-replicate (length l) (length b + length r) (pos 0))
      ∙ append_assoc f (zs c) (replicate (length l + (length b + length r)) (pos 0))
      ∙ ap (λ t. f ++ t) (replicate-append-replicate (length c) (length l + (length b + length r)) (pos 0) ∙ ap (λ j. replicate j (pos 0)) grouped))
    where
      grouped : length c + (length l + (length b + length r)) ≡ length c + length l + length b + length r
      grouped = omega arith

      zs : List ℤ → List ℤ
      zs xs = replicate (length xs) (pos 0)

-- ---- the numbers of a point-day

map_drop : {A B : Type 0} (f : A → B) (n : ℕ) (xs : List A) → map f (drop n xs) ≡ drop n (map f xs)
map_drop f zero xs = refl
map_drop f (suc n) [] = refl
map_drop f (suc n) (x ∷ xs) = map_drop f n xs

module _ (d : PointDay) (xs : List ℤ) where
  -- a number before the arrays
  pub stage_stored : (s : Stage) → set (stored d xs) STAGE_AT (pos (stage_number s)) ≡ stored (set_stage s d) xs
  unfolding stored
  stage_stored s = refl

  pub allotted_stored : (b : Bool) → set (stored d xs) ALLOTTED_AT (pos (bit b)) ≡ stored (set_allotted b d) xs
  unfolding stored
  allotted_stored b = refl

  pub measurement_stored : (e w : ℕ) → set (set (set (stored d xs) MEASURED_AT (pos 1)) EMISSION_AT (pos e)) DOWNSTREAM_AT (pos w) ≡ stored (set_measurement (metered e w) d) xs
  unfolding stored
  measurement_stored e w = refl

  pub count_stored : (k : ℕ) → set (stored d xs) COUNT_AT (pos k) ≡ stored (set_count k d) xs
  unfolding stored
  count_stored k = refl

module _ (d : PointDay) (z : Sized d) (xs : List ℤ) where
  abbrev us : List ℤ
  us = map pos d.users

  users_long : length us ≡ USERS
  users_long = length-map d.users pos ∙ z.users

  abbrev head : List ℤ
  head =
      pos (stage_number d.stage)
      ∷ pos (bit d.allotted)
      ∷ pos (bit (is_measured d.measurement))
      ∷ emission_number d.measurement (atZ xs EMISSION_AT)
      ∷ downstream_number d.measurement (atZ xs DOWNSTREAM_AT)
      ∷ pos d.count
      ∷ []

  abbrev front : List ℤ
  front = head ++ us

  front_long : length front ≡ CONSUMPTION_AT
  front_long = length-append head us ∙ ap (λ k. 6 + k) users_long

  -- a user number
  pub user_stored : (i n : ℕ) → i < USERS → set (stored d xs) (USERS_AT + i) (pos n) ≡ stored (set_users (set d.users i n) d) xs
  unfolding stored
  user_stored i n h =
      set_f front d.consumption d.losses d.balance d.revision (USERS_AT + i) (pos n) (omega (arith, front_long))
      ∙ ap (λ t. t ++ d.consumption ++ d.losses ++ d.balance ++ d.revision) (set_append_right head us i (pos n) ∙ ap (λ t. head ++ t) (sym (map_set pos d.users i n)))

  -- user numbers from the first slot on
  pub users_stored : (ns : List ℕ) → length ns ≤ USERS → put USERS_AT (map pos ns) (stored d xs) ≡ stored (set_users (ns ++ drop (length ns) d.users) d) xs
  unfolding stored
  users_stored ns h =
      let m = length-map ns pos in
      put_f front d.consumption d.losses d.balance d.revision USERS_AT (map pos ns) (omega (arith, front_long, m))
      ∙ ap (λ t. t ++ d.consumption ++ d.losses ++ d.balance ++ d.revision)
      (put_start USERS_AT (map pos ns) head us refl
      ∙ append_assoc head (map pos ns) (drop (length (map pos ns)) us)
      ∙ ap (λ t. head ++ t) (ap (λ k. map pos ns ++ drop k us) m ∙ ap (λ t. map pos ns ++ t) (sym (map_drop pos (length ns) d.users)) ∙ sym (map_append pos ns (drop (length ns) d.users))))

  -- a cell
  pub consumption_stored : (i : ℕ) (y : ℤ) → i < CELLS → set (stored d xs) (CONSUMPTION_AT + i) y ≡ stored (set_consumption (set d.consumption i y) d) xs
  unfolding stored
  consumption_stored i y h = set_c front d.consumption d.losses d.balance d.revision CONSUMPTION_AT i y front_long (omega (arith, z.consumption))

  pub losses_stored : (i : ℕ) (y : ℤ) → i < CELLS → set (stored d xs) (LOSSES_AT + i) y ≡ stored (set_losses (set d.losses i y) d) xs
  unfolding stored
  losses_stored i y h = set_l front d.consumption d.losses d.balance d.revision LOSSES_AT i y (omega (arith, front_long, z.consumption)) (omega (arith, z.losses))

  pub consumption_at : (i : ℕ) → i < CELLS → atZ (stored d xs) (CONSUMPTION_AT + i) ≡ atZ d.consumption i
  unfolding stored
  consumption_at i h = at_c front d.consumption d.losses d.balance d.revision CONSUMPTION_AT i front_long (omega (arith, z.consumption))

  pub losses_at : (i : ℕ) → i < CELLS → atZ (stored d xs) (LOSSES_AT + i) ≡ atZ d.losses i
  unfolding stored
  losses_at i h = at_l front d.consumption d.losses d.balance d.revision LOSSES_AT i (omega (arith, front_long, z.consumption)) (omega (arith, z.losses))

  -- a whole array
  pub balance_stored : (bs : List ℤ) → length bs ≡ CELLS → put BALANCE_AT bs (stored d xs) ≡ stored (set_balance bs d) xs
  unfolding stored
  balance_stored bs e = put_b front d.consumption d.losses d.balance d.revision BALANCE_AT bs (omega (arith, front_long, z.consumption, z.losses)) (e ∙ sym z.balance)

  pub revision_stored : (rs : List ℤ) → length rs ≡ USERS → put REVISION_AT rs (stored d xs) ≡ stored (set_revision rs d) xs
  unfolding stored
  revision_stored rs e = put_r front d.consumption d.losses d.balance d.revision REVISION_AT rs (omega (arith, front_long, z.consumption, z.losses, z.balance)) (e ∙ sym z.revision)

  -- zeros for all amounts
  pub cleared_stored : take CONSUMPTION_AT (stored d xs) ++ replicate (LENGTH - CONSUMPTION_AT) (pos 0)
      ≡ stored (set_consumption (replicate CELLS (pos 0)) (set_losses (replicate CELLS (pos 0)) (set_balance (replicate CELLS (pos 0)) (set_revision (replicate USERS (pos 0)) d)))) xs
  unfolding stored
  cleared_stored =
      cleared front d.consumption d.losses d.balance d.revision CONSUMPTION_AT (LENGTH - CONSUMPTION_AT) front_long (omega (arith, z.consumption, z.losses, z.balance, z.revision))
      ∙ rw (z.consumption, z.losses, z.balance, z.revision) refl

-- ---- arrays of the same lengths

pub sized_consumption : (d : PointDay) → Sized d → (cs : List ℤ) → length cs ≡ CELLS → Sized (set_consumption cs d)
sized_consumption d z cs e = record { users = z.users; consumption = e; losses = z.losses; balance = z.balance; revision = z.revision }

pub sized_revision : (d : PointDay) → Sized d → (rs : List ℤ) → length rs ≡ USERS → Sized (set_revision rs d)
sized_revision d z rs e = record { users = z.users; consumption = z.consumption; losses = z.losses; balance = z.balance; revision = e }
