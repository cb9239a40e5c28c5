-- Allot on a taken point-day: the cells that are written are the layout of the day after it, and each outcome of the call. Assumes nothing.
use mathlib.Core.Path.{◌≡◌, refl, sym, ap, ap₂, ◌∙◌, subst⁻¹}
use mathlib.Core.Bool.{Bool, true, false, not}
use mathlib.Core.List.{List, [], ◌∷◌, ◌++◌, map, zip_with}
use mathlib.Core.Logic.{⊎_elim}
use Prim.Native.Nat.{ℕ, zero, suc, ◌-◌, ◌*◌, ◌≤◌, ◌<◌}
use native.Mathlib.Omega.{arith}
use lib.Dec.{eqb}
use lib.IntN.{ℤ, pos, nat_abs, ◌-ℤ◌}
use lib.ListN.{length, get_or, take, drop, replicate, length-append, get_or-eq_default}
use lib.Seq.{ext_get_or}
use mir.Syntax.{w64}
use mir.Val.{of_z, to_z}
use borrow.Author.Tests.{le-ltb}
use Rattle.numbers.specs.Sums.{table, atZ, total}
use Rattle.numbers.specs.Lists.{flat}
use Rattle.numbers.specs.Amounts.{Within, Between}
use Rattle.numbers.proofs.Amounts.{back, within_pos}
use Rattle.numbers.proofs.Sums.{lt_or_ge, length_table, getD_table}
use Rattle.numbers.proofs.Lists.{All, all_append, all_map, all_zip, map_zip, zip_length}
use Rattle.proration.specs.Proration.{prorateZ}
use Rattle.proration.proofs.Signs.{lengthZ}
use Rattle.point_day.specs.Fields.{same_fields}
use Rattle.point_day.specs.Limits.{USERS, CELLS, KINDS, LIMIT}
use Rattle.point_day.specs.Day.{User, Day, numbers, all_whole, net_of, is_measured, some, too_large}
use Rattle.point_day.specs.Calls.{refused, done, of_2_to_5, by_basis, none_in_2_to_5, or_kind_1, kinds, day_balance, user_shares, with_share, balanced, allotted_with, allot}
use Rattle.point_day.specs.Struct.{Sized, user_at, read, padded, laid, taken, outcome, called}
use Rattle.point_day.specs.declared.PointDay.{PointDay}
use Rattle.point_day.proofs.Taken.{Taken, taken_facts}
use Rattle.point_day.proofs.Arrays.{Full, nobody, read_laid}
use Rattle.point_day.proofs.Back.{map_table, read_full, read_count, read_numbers, laid_read}
use Rattle.point_day.proofs.Called.{called_refused, called_accepted, test_holds, test_passed, none_left}
use Rattle.point_day.proofs.Each.{all_at, zip_at, anything, length_some}
use Rattle.point_day.proofs.Sound.{taken_sound}
use Rattle.point_day.proofs.Wholes.{small_right, length_weights, kinds_size, shares_long, allot_sizes, balance_size, allot_small}
use Rattle.point_day.proofs.Counts.{balanced_long}
use Rattle.state.specs.Places.{From, ROOM, Small, Summable, whole_at}
use Rattle.state.proofs.Cells.{within_from}
use Rattle.taken.specs.Tested.{any_large}
use Rattle.taken.proofs.Facts.{Facts, facts, taken_summable, entering_sum, any_large_is}
use Rattle.allot.specs.UserWeights.{InRange, CellsInRange, consumption_and_losses, weights, by_all_kinds, basis_weights}
use Rattle.allot.specs.Shared.{shares_of}
use Rattle.allot.specs.Slots.{balances_of, all_balances}
use Rattle.allot.proofs.balance.Cells.{first_cells, cells_padded}
use Rattle.allot.specs.Allotted.{with_balances, Allots, Tested}

-- ---- lists

zip_table : {A B C : Type 0} (f : A → B → C) (g : ℕ → A) (a : A) (b : B) (c : C) (n : ℕ) (ys : List B) → length ys ≡ n
    → zip_with f (table g n) ys ≡ table (λ i. f (g i) (get_or ys i b)) n
zip_table f g a b c n ys e =
    let long : length (table g n) ≡ length ys = length_table g n ∙ sym e in
    ext_get_or c (zip_with f (table g n) ys) (table (λ i. f (g i) (get_or ys i b)) n)
    (zip_length f (table g n) ys long ∙ length_table g n ∙ sym (length_table (λ i. f (g i) (get_or ys i b)) n))
    (λ i l.
    let m : i < n = omega (arith, zip_length f (table g n) ys long, length_table g n) in
    zip_at f a b c (table g n) ys long i (omega (arith, length_table g n))
    ∙ ap (λ x. f x (get_or ys i b)) (getD_table g n i a m)
    ∙ sym (getD_table (λ i. f (g i) (get_or ys i b)) n i c m))

all_flat : {A : Type 0} (P : A → Type 0) (f : User → List A) (us : List User) → All (λ u. All P (f u)) us → All P (flat (map f us))
unfolding flat
all_flat P f [] h = tt
all_flat P f (u ∷ us) h = all_append P (f u) (flat (map f us)) h.0 (all_flat P f us h.1)

all_padded : {A : Type 0} (P : A → Type 0) (x : A) → P x → (n : ℕ) (xs : List A) → All P xs → All P (padded n x xs)
unfolding padded
all_padded P x p n xs h = all_append P xs (replicate (n - length xs) x) h (same (n - length xs))
  where
    same : (k : ℕ) → All P (replicate k x)
    same zero = tt
    same (suc k) = (p, same k)

-- a column that is filled so far is that long
pub filled_long : {A : Type 0} {n : ℕ} (xs ys : List A) {zs : List A} → length xs ≡ n → zs ≡ xs ++ ys → n ≤ length zs
filled_long xs ys l e = omega (arith, ap length e, length-append xs ys)

none_there : {A : Type 0} (xs : List A) → length xs ≡ 0 → some xs ≡ false
none_there [] e = refl
none_there (x ∷ xs) e = absurd (omega arith)

-- ---- a taken point-day

in_range : (xs : List ℤ) → length xs ≡ CELLS → From 0 (pos 0) (pos LIMIT) xs → InRange xs
in_range xs long h = record {
  long = long;
  range = λ i. ⊎_elim (λ l. h i (omega arith) l) (λ l. rw (get_or-eq_default xs (pos 0) {n = i} l) zero_between) (lt_or_ge i (length xs));
}
  where
    zero_between : Between (pos 0) (pos LIMIT) (pos 0)
    zero_between = record { above = refl; below = le-ltb LIMIT 0 (omega arith) }

module _ (d : PointDay) (z : Sized d) (ok : taken d ≡ true) where
  t : Taken d
  t = taken_facts d ok

  f : Facts d
  f = facts d z ok

  pub cells_in_range : CellsInRange d.consumption d.losses
  cells_in_range = record {
    consumption = in_range d.consumption z.consumption f.arrays.consumption.range;
    losses = in_range d.losses z.losses f.arrays.losses.range;
    sum = f.offtake;
  }

  -- ---- what is computed from the arrays is what the definitions say of the day

  basis_day : by_all_kinds d.consumption d.losses d.count ≡ none_in_2_to_5 (read d).users
  unfolding read user_at
  basis_day = ap (λ xs. eqb (total xs) 0) (sym (map_table (λ v. total (of_2_to_5 v)) (user_at d) d.count))

  weights_day : basis_weights d.consumption d.losses d.count ≡ map (λ u. total (by_basis (none_in_2_to_5 (read d).users) u)) (read d).users
  weights_day = ap (λ p. weights p d.consumption d.losses d.count) basis_day ∙ by_place (none_in_2_to_5 (read d).users)
    where
      by_place : (p : Bool) → weights p d.consumption d.losses d.count ≡ map (λ u. total (by_basis p u)) (read d).users
      by_place p = unfold read user_at in sym (map_table (λ u. total (by_basis p u)) (user_at d) d.count)

  pub shares_day : shares_of (day_balance (read d)) d.consumption d.losses d.users d.count ≡ user_shares (read d)
  shares_day =
      ap (λ ws. prorateZ (day_balance (read d)) ws (take d.count d.users)) weights_day
      ∙ ap (prorateZ (day_balance (read d)) _) (sym (read_numbers d z t))

  cells_day : all_balances (day_balance (read d)) d.consumption d.losses d.users d.count ≡ flat (map (λ (u : User). u.balance) (balanced (read d)))
  cells_day =
      ap₂ (λ p zs. balances_of p d.consumption d.losses zs d.count) basis_day shares_day
      ∙ ap flat (by_place (none_in_2_to_5 (read d).users) (user_shares (read d)) (sym (shares_long (read d)) ∙ read_count d z t))
      ∙ unfold balanced in refl
    where
      by_place : (p : Bool) (zs : List ℤ) → length zs ≡ d.count
          → table (λ s. (with_share p (consumption_and_losses d.consumption d.losses s) (atZ zs s)).balance) d.count ≡ map (λ (u : User). u.balance) (zip_with (with_share p) (read d).users zs)
      by_place p zs e =
          unfold read user_at in
          sym
          (ap (map (λ (u : User). u.balance)) (zip_table (with_share p) (user_at d) nobody (pos 0) nobody d.count zs e)
          ∙ map_table (λ (u : User). u.balance) (λ s. with_share p (user_at d s) (atZ zs s)) d.count)

  -- ---- the point-day after it

  next_day : with_balances (padded CELLS (pos 0) (all_balances (day_balance (read d)) d.consumption d.losses d.users d.count)) d
      ≡ laid (allotted_with (balanced (read d)) (read d))
  unfolding laid
  next_day = same_fields (record {
    stage = stage;
    allotted = refl;
    measurement = measurement;
    count = count;
    users = users;
    consumption = consumption;
    losses = losses;
    balance = ap (padded CELLS (pos 0)) cells_day;
    revision = revision;
  })
    where
      back : laid (read d) ≡ d
      back = laid_read d z t

      -- what allot leaves of each user
      same : {B : Type 0} (g : User → B) → ((u : User) (x : ℤ) → g (with_share (none_in_2_to_5 (read d).users) u x) ≡ g u) → map g (balanced (read d)) ≡ map g (read d).users
      same g h = unfold balanced in map_zip g g (with_share (none_in_2_to_5 (read d).users)) h (read d).users (user_shares (read d)) (shares_long (read d))

      stage : d.stage ≡ (read d).stage
      stage = unfold read in refl

      measurement : d.measurement ≡ (read d).measurement
      measurement = unfold read in refl

      count : d.count ≡ length (balanced (read d))
      count = sym (balanced_long (read d) ∙ read_count d z t)

      users : d.users ≡ padded USERS 0 (numbers (balanced (read d)))
      users = sym (ap (λ (x : PointDay). x.users) back) ∙ ap (padded USERS 0) (sym (same (λ (u : User). u.number) (λ u x. refl)))

      consumption : d.consumption ≡ padded CELLS (pos 0) (flat (map (λ u. map pos u.consumption) (balanced (read d))))
      consumption = sym (ap (λ (x : PointDay). x.consumption) back) ∙ ap (λ l. padded CELLS (pos 0) (flat l)) (sym (same (λ u. map pos u.consumption) (λ u x. refl)))

      losses : d.losses ≡ padded CELLS (pos 0) (flat (map (λ u. map pos u.losses) (balanced (read d))))
      losses = sym (ap (λ (x : PointDay). x.losses) back) ∙ ap (λ l. padded CELLS (pos 0) (flat l)) (sym (same (λ u. map pos u.losses) (λ u x. refl)))

      revision : d.revision ≡ padded USERS (pos 0) (map (λ (u : User). u.revision) (balanced (read d)))
      revision = sym (ap (λ (x : PointDay). x.revision) back) ∙ ap (padded USERS (pos 0)) (sym (same (λ (u : User). u.revision) (λ u x. refl)))

  -- ---- its whole amounts

  -- its users are those of the day after
  full_after : All Full (balanced (read d))
  unfolding balanced
  full_after =
      all_zip Full (λ x. Unit {0}) Full (with_share (none_in_2_to_5 (read d).users))
      (λ u x h k. record {
        consumption = h.consumption;
        losses = h.losses;
        balance = lengthZ x (or_kind_1 (by_basis (none_in_2_to_5 (read d).users) u)) kinds ∙ length_weights (none_in_2_to_5 (read d).users) u h;
      })
      (read d).users (user_shares (read d)) (read_full d z t) (anything (user_shares (read d)))

  module _ (a : d.allotted ≡ false) (some_user : some (read d).users ≡ true) where
    sizes_after : All (λ u. All (λ x. nat_abs x ≤ LIMIT) u.balance) (balanced (read d))
    unfolding balanced
    sizes_after =
        all_zip Full (λ x. nat_abs x ≤ LIMIT) (λ u. All (λ x. nat_abs x ≤ LIMIT) u.balance) (with_share (none_in_2_to_5 (read d).users))
        (λ u x h k. all_map (λ y. nat_abs y ≤ nat_abs x) (λ y. nat_abs y ≤ LIMIT) (λ y l. omega arith) (prorateZ x (or_kind_1 (by_basis (none_in_2_to_5 (read d).users) u)) kinds) (kinds_size (none_in_2_to_5 (read d).users) u h x))
        (read d).users (user_shares (read d)) (read_full d z t)
        (all_map (λ x. nat_abs x ≤ nat_abs (day_balance (read d))) (λ x. nat_abs x ≤ LIMIT)
        (λ x l. omega (arith, balance_size (read d) (taken_sound d z t) (unfold read in a) some_user))
        (user_shares (read d)) (allot_sizes (read d) (taken_sound d z t) (unfold read in a) some_user))

    cells_small : Small (padded CELLS (pos 0) (all_balances (day_balance (read d)) d.consumption d.losses d.users d.count))
    cells_small i =
        let cells = flat (map (λ (u : User). u.balance) (balanced (read d))) in
        rw cells_day
        (within_from LIMIT (padded CELLS (pos 0) cells)
        (λ j m l. all_at (λ x. nat_abs x ≤ LIMIT) (pos 0) (padded CELLS (pos 0) cells)
        (all_padded (λ x. nat_abs x ≤ LIMIT) (pos 0) (omega arith) CELLS cells
        (all_flat (λ x. nat_abs x ≤ LIMIT) (λ (u : User). u.balance) (balanced (read d)) sizes_after)) j l)
        ROOM (omega arith) i)

    -- with the cells written
    module _ (bs : List ℤ) (b : bs ≡ padded CELLS (pos 0) (all_balances (day_balance (read d)) d.consumption d.losses d.users d.count)) where
      pub balances_small : Small bs
      balances_small = subst⁻¹ Small b cells_small

      next_summable : Summable (with_balances bs d)
      next_summable =
          let l = taken_summable d z ok in
          record {
            few = l.few;
            consumption = l.consumption;
            losses = l.losses;
            balance = balances_small;
            revision = l.revision;
            above = l.above;
            above_losses = l.above_losses;
          }

      next_sized : length bs ≡ CELLS → Sized (with_balances bs d)
      next_sized long = record { users = z.users; consumption = z.consumption; losses = z.losses; balance = long; revision = z.revision }

      -- the code's test of the whole amounts is the definition's
      pub large_after : length bs ≡ CELLS → (xs : List ℤ) → xs ≡ table (whole_at d.consumption d.losses bs d.revision) d.count → any_large xs ≡ too_large (balanced (read d))
      large_after long xs e =
          any_large_is (with_balances bs d) (next_sized long) next_summable xs e
          ∙ ap (λ (x : PointDay). too_large (read x).users) (ap (λ l. with_balances l d) b ∙ next_day)
          ∙ ap (λ (x : Day). too_large x.users) (read_laid (allotted_with (balanced (read d)) (read d)) full_after)

  -- ---- the outcomes

  pub users_are : (d.count ≡ 0 → ⊥) → some (read d).users ≡ true
  users_are h = length_some (read d).users (omega (arith, read_count d z t))

  pub allot_1 : d.allotted ≡ true → outcome (refused 1) d ≡ called allot d
  unfolding allot read
  allot_1 a = called_refused allot d 1 ok (test_holds 1 d.allotted _ a)

  module _ (a : d.allotted ≡ false) where
    -- the balance of the day: the whole amounts of an entering point-day are its consumption and losses
    balance_day : {x w : ℤ} → x ≡ net_of d.measurement → w ≡ all_whole (read d).users → x -ℤ w ≡ day_balance (read d)
    unfolding read
    balance_day p q = ap₂ ◌-ℤ◌ p (q ∙ entering_sum d z ok a)

    pub sum_small : {w : ℤ} → w ≡ all_whole (read d).users → Within LIMIT w
    sum_small q = record { size = omega (arith, ap nat_abs (q ∙ entering_sum d z ok a), t.offtake) }

    -- as the code computes it
    pub difference_is : {x : ℕ} {w : ℤ} → pos x ≡ net_of d.measurement → x ≤ LIMIT → w ≡ all_whole (read d).users → to_z w64 x -ℤ to_z w64 (of_z w64 w) ≡ day_balance (read d)
    difference_is {x} p l q = ap₂ ◌-ℤ◌ (back (within_pos x) (omega arith)) (back (sum_small q) (omega arith)) ∙ balance_day p q

    pub allot_7 : is_measured d.measurement ≡ false → outcome (refused 7) d ≡ called allot d
    unfolding allot read
    allot_7 m = called_refused allot d 7 ok (test_passed 1 d.allotted _ a (test_holds 7 (not (is_measured d.measurement)) _ (ap not m)))

    module _ (m : is_measured d.measurement ≡ true) where
      pub allot_8 : d.count ≡ 0 → outcome (refused 8) d ≡ called allot d
      unfolding allot
      allot_8 e =
          called_refused allot d 8 ok
          (test_passed 1 (read d).allotted _ (unfold read in a)
          (test_passed 7 (not (is_measured (read d).measurement)) _ (unfold read in ap not m)
          (test_holds 8 (not (some (read d).users)) _ (ap not (none_there (read d).users (read_count d z t ∙ e))))))

      module _ (h : d.count ≡ 0 → ⊥) where
        pub balance_small : Within LIMIT (day_balance (read d))
        balance_small = record { size = balance_size (read d) (taken_sound d z t) (unfold read in a) (users_are h) }

        -- what the code leaves in the cells
        pub cells_left : {x : ℕ} {w b : ℤ} {cells bs : List ℤ} → pos x ≡ net_of d.measurement → x ≤ LIMIT → w ≡ all_whole (read d).users → b ≡ to_z w64 x -ℤ to_z w64 (of_z w64 w)
            → cells ≡ padded CELLS (pos 0) []
            → bs ≡ all_balances (to_z w64 (of_z w64 b)) d.consumption d.losses (take d.count d.users) (length (take d.count d.users)) ++ drop (KINDS * length (take d.count d.users)) cells
            → bs ≡ padded CELLS (pos 0) (all_balances (day_balance (read d)) d.consumption d.losses d.users d.count)
        cells_left {cells = cells} p l q e zeros g =
            let kept = ap (λ y. to_z w64 (of_z w64 y)) (e ∙ difference_is p l q) ∙ back balance_small (omega arith) in
            cells_padded (day_balance (read d)) d.consumption d.losses d.users d.count cells_in_range f.few zeros
            (g
            ∙ first_cells _ d.consumption d.losses d.users d.count (omega (arith, f.few, z.users)) cells
            ∙ ap (λ y. all_balances y d.consumption d.losses d.users d.count ++ drop (KINDS * d.count) cells) kept)

        pub allot_12 : too_large (balanced (read d)) ≡ true → outcome (refused 12) d ≡ called allot d
        unfolding allot
        allot_12 q =
            called_refused allot d 12 ok
            (test_passed 1 (read d).allotted _ (unfold read in a)
            (test_passed 7 (not (is_measured (read d).measurement)) _ (unfold read in ap not m)
            (test_passed 8 (not (some (read d).users)) _ (ap not (users_are h))
            (test_holds 12 (too_large (balanced (read d))) _ q))))

        accepted : too_large (balanced (read d)) ≡ false → outcome done (laid (allotted_with (balanced (read d)) (read d))) ≡ called allot d
        unfolding allot
        accepted q =
            called_accepted allot d ok
            (test_passed 1 (read d).allotted _ (unfold read in a)
            (test_passed 7 (not (is_measured (read d).measurement)) _ (unfold read in ap not m)
            (test_passed 8 (not (some (read d).users)) _ (ap not (users_are h))
            (test_passed 12 (too_large (balanced (read d))) _ q none_left))))

        pub allot_done : too_large (balanced (read d)) ≡ false → {bs : List ℤ}
            → bs ≡ padded CELLS (pos 0) (all_balances (day_balance (read d)) d.consumption d.losses d.users d.count)
            → outcome done (with_balances bs d) ≡ called allot d
        allot_done q e = ap (λ l. outcome done (with_balances l d)) e ∙ ap (λ (x : PointDay). outcome done x) next_day ∙ accepted q

        -- without the test: no whole amount is above 1,000,000,000 in size
        pub allot_laid : outcome done (laid (allotted_with (balanced (read d)) (read d))) ≡ called allot d
        allot_laid = accepted (small_right (balanced (read d)) (allot_small (read d) (taken_sound d z t) (unfold read in a) (users_are h)))

-- ---- the code's tests

pub fails : (bs : List ℤ) (d : PointDay) (r : ℕ) → outcome (refused (suc r)) d ≡ called allot d → Tested bs d (suc r)
fails bs d r o = record { passed = λ e. absurd (omega arith); failed = λ h. o }

pub passes : (bs : List ℤ) (d : PointDay) → Allots bs d → Tested bs d 0
passes bs d p = record { passed = λ e. p; failed = λ h. absurd (h refl) }
