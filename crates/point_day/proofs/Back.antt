-- A taken point-day is the layout of the day read from it. Assumes nothing.
use mathlib.Core.Path.{◌≡◌, refl, sym, ap, ap₂, ◌∙◌}
use mathlib.Core.Bool.{Bool, true, not}
use mathlib.Core.List.{List, [], ◌∷◌, ◌++◌, map, append_assoc, append-nil}
use Prim.Native.Nat.{ℕ, zero, suc, ◌+◌, ◌-◌, ◌*◌, ◌≤◌, ◌<◌}
use native.Mathlib.Omega.{arith}
use lib.Dec.{eqb}
use lib.IntN.{ℤ, pos, negsuc, nat_abs}
use lib.ListN.{length, take, drop, replicate, length-map, length-drop, take-append-drop}
use lib.Seq.{take-add, length-take-le}
use borrow.Author.Tests.{eqb-true, not-true}
use Rattle.numbers.specs.Sums.{table}
use Rattle.numbers.proofs.Sums.{length_table, table_take, table_same}
use Rattle.numbers.specs.Amounts.{is_negative}
use Rattle.numbers.specs.Lists.{every, flat}
use Rattle.point_day.specs.Fields.{same_fields}
use Rattle.point_day.specs.Limits.{USERS, CELLS}
use Rattle.point_day.specs.Day.{User, is_zero, numbers}
use Rattle.point_day.specs.Struct.{Sized, kinds_of, user_at, read, padded, laid, none_past, none_below}
use Rattle.point_day.specs.declared.PointDay.{PointDay}
use Rattle.numbers.proofs.Lists.{All, all_table, both_fst, both_snd, map_append}
use Rattle.numbers.proofs.Amounts.{pos_size}
use Rattle.point_day.proofs.Taken.{Taken}
use Rattle.point_day.proofs.Arrays.{Full}

-- ---- tables of parts

pub map_table : {A B : Type 0} (g : A → B) (f : ℕ → A) (n : ℕ) → map g (table f n) ≡ table (λ i. g (f i)) n
unfolding table
map_table g f zero = refl
map_table g f (suc n) = map_append g (table f n) (f n ∷ []) ∙ ap (λ t. t ++ (g (f n) ∷ [])) (map_table g f n)

pub flat_snoc : {A : Type 0} (xss : List (List A)) (xs : List A) → flat (xss ++ (xs ∷ [])) ≡ flat xss ++ xs
unfolding flat
flat_snoc [] xs = append-nil xs
flat_snoc (ys ∷ xss) xs = ap (λ t. ys ++ t) (flat_snoc xss xs) ∙ sym (append_assoc ys (flat xss) xs)

flat_table : {A : Type 0} (xs : List A) (n : ℕ) → flat (table (λ s. kinds_of s xs) n) ≡ take (5 * n) xs
unfolding table flat
flat_table xs zero = refl
flat_table xs (suc n) =
    let e : 5 * suc n ≡ 5 * n + 5 = omega arith in
    flat_snoc (table (λ s. kinds_of s xs) n) (kinds_of n xs) ∙ ap (λ t. t ++ kinds_of n xs) (flat_table xs n) ∙ sym (take-add (5 * n) 5 xs) ∙ ap (λ k. take k xs) (sym e)

-- ---- what is padded

padded_take : {A : Type 0} (x : A) (N n : ℕ) (xs : List A) → length xs ≡ N → n ≤ N → drop n xs ≡ replicate (N - n) x → padded N x (take n xs) ≡ xs
unfolding padded
padded_take x N n xs e l h =
    ap (λ k. take n xs ++ replicate (N - k) x) (length-take-le n xs (omega arith))
    ∙ ap (λ t. take n xs ++ t) (sym h)
    ∙ take-append-drop n xs

all_same : {A : Type 0} (p : A → Bool) (x : A) → ((y : A) → p y ≡ true → y ≡ x) → (xs : List A) → every p xs ≡ true → xs ≡ replicate (length xs) x
unfolding every
all_same p x f [] e = refl
all_same p x f (y ∷ xs) e = ap₂ ◌∷◌ (f y (both_fst (p y) _ e)) (all_same p x f xs (both_snd (p y) _ e))

zero_is : (z : ℤ) → is_zero z ≡ true → z ≡ pos 0
zero_is (pos n) e = ap pos (eqb-true n 0 e)
zero_is (negsuc n) e = absurd (omega (arith, eqb-true (suc n) 0 e))

rest_same : {A : Type 0} (p : A → Bool) (x : A) → ((y : A) → p y ≡ true → y ≡ x) → (N n : ℕ) (xs : List A) → length xs ≡ N → every p (drop n xs) ≡ true → drop n xs ≡ replicate (N - n) x
rest_same p x f N n xs e h = all_same p x f (drop n xs) h ∙ ap (λ k. replicate k x) (length-drop n xs ∙ ap (λ k. k - n) e)

-- ---- sizes put back

pub every_take : {A : Type 0} (p : A → Bool) (n : ℕ) (xs : List A) → every p xs ≡ true → every p (take n xs) ≡ true
unfolding every
every_take p zero xs e = refl
every_take p (suc n) [] e = refl
every_take p (suc n) (x ∷ xs) e = rw (both_fst (p x) _ e) (every_take p n xs (both_snd (p x) _ e))

pub every_drop : {A : Type 0} (p : A → Bool) (n : ℕ) (xs : List A) → every p xs ≡ true → every p (drop n xs) ≡ true
unfolding every
every_drop p zero xs e = e
every_drop p (suc n) [] e = refl
every_drop p (suc n) (x ∷ xs) e = every_drop p n xs (both_snd (p x) _ e)

pub signs_back : (zs : List ℤ) → every (λ z. not (is_negative z)) zs ≡ true → map pos (map nat_abs zs) ≡ zs
unfolding every
signs_back [] e = refl
signs_back (z ∷ zs) e = ap₂ ◌∷◌ (sym (pos_size z (not-true (is_negative z) (both_fst (not (is_negative z)) _ e)))) (signs_back zs (both_snd (not (is_negative z)) _ e))

-- ---- the point-day

module _ (d : PointDay) (z : Sized d) (t : Taken d) where
  pub read_full : All Full (read d).users
  unfolding read user_at
  read_full =
      all_table Full _ d.count
      (λ i l. record {
        consumption = length-map (kinds_of i d.consumption) nat_abs ∙ long i d.consumption l z.consumption;
        losses = length-map (kinds_of i d.losses) nat_abs ∙ long i d.losses l z.losses;
        balance = long i d.balance l z.balance;
      })
    where
      long : {A : Type 0} (i : ℕ) (xs : List A) → i < d.count → length xs ≡ CELLS → length (kinds_of i xs) ≡ 5
      long i xs l e = length-take-le 5 (drop (5 * i) xs) (omega (arith, length-drop (5 * i) xs, t.few))

  pub read_count : length (read d).users ≡ d.count
  unfolding read
  read_count = length_table (user_at d) d.count

  pub read_numbers : numbers (read d).users ≡ take d.count d.users
  unfolding read user_at
  read_numbers = map_table (λ (u : User). u.number) (user_at d) d.count ∙ table_take 0 d.users d.count (omega (arith, t.few, z.users))

  numbers_back : padded USERS 0 (numbers (read d).users) ≡ d.users
  numbers_back =
      rw read_numbers
      (padded_take 0 USERS d.count d.users z.users t.few
      (rest_same (λ n. eqb n 0) 0 (λ y e. eqb-true y 0 e) USERS d.count d.users z.users t.past.users))

  revisions_back : padded USERS (pos 0) (map (λ (u : User). u.revision) (read d).users) ≡ d.revision
  unfolding read user_at
  revisions_back =
      ap (padded USERS (pos 0)) (map_table (λ (u : User). u.revision) (user_at d) d.count ∙ table_take (pos 0) d.revision d.count (omega (arith, t.few, z.revision)))
      ∙ padded_take (pos 0) USERS d.count d.revision z.revision t.few (rest_same is_zero (pos 0) zero_is USERS d.count d.revision z.revision t.past.revision)

  cells_back : (f : User → List ℤ) (xs : List ℤ) → length xs ≡ CELLS → ((s : ℕ) → f (user_at d s) ≡ kinds_of s xs) → none_past (5 * d.count) xs ≡ true
      → padded CELLS (pos 0) (flat (map f (read d).users)) ≡ xs
  unfolding read
  cells_back f xs e h p =
      ap (λ t. padded CELLS (pos 0) (flat t)) (map_table f (user_at d) d.count ∙ table_same (λ s. f (user_at d s)) (λ s. kinds_of s xs) h d.count)
      ∙ ap (padded CELLS (pos 0)) (flat_table xs d.count)
      ∙ padded_take (pos 0) CELLS (5 * d.count) xs e (omega (arith, t.few)) (rest_same is_zero (pos 0) zero_is CELLS (5 * d.count) xs e p)

  kinds_of_back : (s : ℕ) (xs : List ℤ) → none_below xs ≡ true → map pos (map nat_abs (kinds_of s xs)) ≡ kinds_of s xs
  kinds_of_back s xs e = signs_back (kinds_of s xs) (every_take (λ z. not (is_negative z)) 5 (drop (5 * s) xs) (every_drop (λ z. not (is_negative z)) (5 * s) xs e))

  pub laid_read : laid (read d) ≡ d
  unfolding laid
  laid_read = same_fields (record {
    stage = stage;
    allotted = allotted;
    measurement = measurement;
    count = read_count;
    users = numbers_back;
    consumption = consumption;
    losses = losses;
    balance = balance;
    revision = revisions_back;
  })
    where
      stage : (read d).stage ≡ d.stage
      stage = unfold read in refl

      allotted : (read d).allotted ≡ d.allotted
      allotted = unfold read in refl

      measurement : (read d).measurement ≡ d.measurement
      measurement = unfold read in refl

      consumption : padded CELLS (pos 0) (flat (map (λ u. map pos u.consumption) (read d).users)) ≡ d.consumption
      consumption = cells_back (λ u. map pos u.consumption) d.consumption z.consumption (λ s. unfold user_at in kinds_of_back s d.consumption t.consumption) t.past.consumption

      losses : padded CELLS (pos 0) (flat (map (λ u. map pos u.losses) (read d).users)) ≡ d.losses
      losses = cells_back (λ u. map pos u.losses) d.losses z.losses (λ s. unfold user_at in kinds_of_back s d.losses t.losses) t.past.losses

      balance : padded CELLS (pos 0) (flat (map (λ (u : User). u.balance) (read d).users)) ≡ d.balance
      balance = cells_back (λ (u : User). u.balance) d.balance z.balance (λ s. unfold user_at in refl) t.past.balance
