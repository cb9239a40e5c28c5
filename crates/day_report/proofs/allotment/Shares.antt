-- The report on a point-day that is entered and allotted, from the users' shares of its balance: the kinds of a share add up to it. Assumes nothing.
use mathlib.Core.Path.{◌≡◌, refl, sym, ap, ap₂, ◌∙◌, subst}
use mathlib.Core.Bool.{Bool, true, false, not}
use mathlib.Core.List.{List, [], ◌∷◌, ◌++◌, map, zip_with}
use Prim.Native.Nat.{ℕ, zero, suc, ◌+◌, ◌-◌, ◌*◌, ◌≤◌, ◌<◌}
use native.Mathlib.Omega.{arith}
use lib.IntN.{ℤ, pos, nat_abs, ◌+ℤ◌, ◌-ℤ◌, +ℤ_idr, +ℤ_comm, +ℤ-neg_ℤ_cancel}
use lib.ListN.{length, get_or, take, drop, length-map, get_or-map}
use lib.Seq.{take-add, ext_get_or}
use borrow.Author.Tests.{not-true}
use Rattle.numbers.specs.Sums.{table, atZ, total, totalZ}
use Rattle.numbers.specs.Amounts.{is_negative}
use Rattle.numbers.specs.Lists.{flat}
use Rattle.numbers.proofs.Amounts.{NonNeg, sum_nonneg, exchange}
use Rattle.numbers.proofs.Lists.{All, all_map, all_every, all_zip, map_zip}
use Rattle.numbers.proofs.Sums.{length_table, getD_table, table_same, totalZ_append}
use Rattle.proration.proofs.Signs.{lengthZ}
use Rattle.point_day.specs.Limits.{KINDS, LIMIT}
use Rattle.point_day.specs.Day.{User, Day, offtake, all_offtake, net, net_of, is_measured, some}
use Rattle.point_day.specs.Calls.{by_basis, none_in_2_to_5, or_kind_1, kinds, day_balance, user_shares, with_share, balanced, allotted_with}
use Rattle.point_day.specs.Struct.{Sized, kinds_of, user_at, read, none_below, taken}
use Rattle.point_day.specs.declared.PointDay.{PointDay}
use Rattle.point_day.proofs.Taken.{Taken, taken_facts}
use Rattle.point_day.proofs.Arrays.{Full, nobody, read_laid}
use Rattle.point_day.proofs.Back.{map_table, read_full, read_count, every_take, every_drop}
use Rattle.point_day.proofs.Each.{all_at, zip_at, anything}
use Rattle.point_day.proofs.Sound.{Bare, Sound, taken_sound}
use Rattle.point_day.proofs.Wholes.{length_weights, kinds_sum, whole_share, shares_long, allot_shares, allot_sizes, balance_size}
use Rattle.point_day.proofs.Counts.{balanced_long}
use Rattle.allot.specs.Shared.{shares_of}
use Rattle.allot.proofs.Outcomes.{users_are, shares_day as day-shares, allot_laid}
use Rattle.day_book.specs.Run.{allot}
use Rattle.day_file.specs.Report.{allotted, in_order}
use Rattle.day_file.specs.Text.{point_word, user_word, consumption, losses, balance, user_line, text}
use Rattle.report.specs.Lines.{of_slot, slot_line}
use Rattle.report.proofs.lines.Sizes.{line_as}
use Rattle.report.specs.Allotted.{shares_text}
use Rattle.file_lines.proofs.Steps.{step}
use Rattle.point_day.specs.Day.{metered}

-- ---- sums over slots

-- the slots one after the other are the array's start
slots_total : (xs : List ℤ) (n : ℕ) → totalZ (table (of_slot xs) n) ≡ totalZ (take (KINDS * n) xs)
unfolding table totalZ
slots_total xs zero = refl
slots_total xs (suc n) =
    let e : KINDS * suc n ≡ KINDS * n + KINDS = omega arith in
    totalZ_append (table (of_slot xs) n) (of_slot xs n ∷ [])
    ∙ ap₂ ◌+ℤ◌ (slots_total xs n) (+ℤ_idr (of_slot xs n))
    ∙ sym (totalZ_append (take (KINDS * n) xs) (kinds_of n xs))
    ∙ ap totalZ (sym (take-add (KINDS * n) KINDS xs) ∙ ap (λ k. take k xs) (sym e))

-- no amount below 0: sizes sum to the amounts
sizes_sum : (xs : List ℤ) → none_below xs ≡ true → (s : ℕ) → pos (total (map nat_abs (kinds_of s xs))) ≡ of_slot xs s
sizes_sum xs h s =
    let k = every_take (λ z. not (is_negative z)) KINDS (drop (KINDS * s) xs) (every_drop (λ z. not (is_negative z)) (KINDS * s) xs h) in
    sym (sum_nonneg (kinds_of s xs) (all_map _ NonNeg (λ z e. not-true (is_negative z) e) (kinds_of s xs) (all_every (λ z. not (is_negative z)) (kinds_of s xs) k)))

-- ---- figures of users

-- all consumption and losses, by consumption and by losses
apart : (us : List User) → pos (all_offtake us) ≡ totalZ (map consumption us) +ℤ totalZ (map losses us)
unfolding total totalZ
apart [] = refl
apart (u ∷ us) =
    ap (λ t. pos (offtake u) +ℤ t) (apart us)
    ∙ exchange (pos (total u.consumption)) (pos (total u.losses)) (totalZ (map consumption us)) (totalZ (map losses us))

-- what is left of a sum
rest : (a b c : ℤ) → a ≡ b +ℤ c → c ≡ a -ℤ b
rest a b c e = sym (ap (λ t. t -ℤ b) (e ∙ +ℤ_comm b c) ∙ +ℤ-neg_ℤ_cancel c b)

-- a user's balance over all kinds is its share
balances : (all : Bool) (us : List User) (zs : List ℤ) → length us ≡ length zs → All Full us → map balance (zip_with (with_share all) us zs) ≡ zs
unfolding zip_with
balances all [] [] l f = refl
balances all [] (z ∷ zs) l f = absurd (omega arith)
balances all (u ∷ us) [] l f = absurd (omega arith)
balances all (u ∷ us) (z ∷ zs) l f = ap₂ ◌∷◌ (kinds_sum all u f.0 z) (balances all us zs (omega arith) f.1)

-- ---- a taken point-day that is entered and measured, with a user

module _ (p : PointDay) (z : Sized p) (ok : taken p ≡ true) (a : p.allotted ≡ false) (e w : ℕ) (m : p.measurement ≡ metered e w) (h : p.count ≡ 0 → ⊥) where
  abbrev us : List User
  us = (read p).users

  abbrev all : Bool
  all = none_in_2_to_5 us

  abbrev pub after : Day
  after = allotted_with (balanced (read p)) (read p)

  t : Taken p
  t = taken_facts p ok

  sound : Sound (read p)
  sound = taken_sound p z t

  filled : some us ≡ true
  filled = users_are p z ok h

  entering : (read p).allotted ≡ false
  entering = unfold read in a

  -- ---- allot is accepted

  full_after : All Full (balanced (read p))
  unfolding balanced
  full_after =
      all_zip Full (λ x. Unit {0}) Full (with_share all)
      (λ u x h k. record { consumption = h.consumption; losses = h.losses; balance = lengthZ x (or_kind_1 (by_basis all u)) kinds ∙ length_weights all u h })
      us (user_shares (read p)) (read_full p z t) (anything (user_shares (read p)))

  pub day_after : (g : ℕ) → in_order g (allot ∷ []) p ≡ allotted g after
  unfolding in_order
  day_after g =
      step g allot [] p (allot_laid p z ok a (ap is_measured m) h)
      ∙ ap (allotted g) (read_laid after full_after)

  -- ---- the shares

  pub shares_day : {b : ℤ} → b ≡ day_balance (read p) → shares_of b p.consumption p.losses p.users p.count ≡ user_shares (read p)
  shares_day q = ap (λ b. shares_of b p.consumption p.losses p.users p.count) q ∙ day-shares p z ok

  pub shares_limited : All (λ x. nat_abs x ≤ LIMIT) (user_shares (read p))
  shares_limited =
      all_map (λ x. nat_abs x ≤ nat_abs (day_balance (read p))) (λ x. nat_abs x ≤ LIMIT) (λ x l. omega (arith, balance_size (read p) sound entering filled))
      (user_shares (read p)) (allot_sizes (read p) sound entering filled)

  -- ---- the users' lines

  slot_consumption : (s : ℕ) → consumption (user_at p s) ≡ of_slot p.consumption s
  unfolding user_at
  slot_consumption s = sizes_sum p.consumption t.consumption s

  slot_losses : (s : ℕ) → losses (user_at p s) ≡ of_slot p.losses s
  unfolding user_at
  slot_losses s = sizes_sum p.losses t.losses s

  slot_number : (s : ℕ) → pos (user_at p s).number ≡ pos (get_or p.users s 0)
  unfolding user_at
  slot_number s = refl

  user_is : (i : ℕ) → i < p.count → get_or us i nobody ≡ user_at p i
  unfolding read
  user_is i l = getD_table (user_at p) p.count i nobody l

  full_at : (i : ℕ) → i < p.count → Full (user_at p i)
  full_at i l = subst Full (user_is i l) (all_at Full nobody us (read_full p z t) i (omega (arith, read_count p z t)))

  bare_at : (i : ℕ) → i < p.count → Bare (user_at p i)
  bare_at i l = subst Bare (user_is i l) (all_at Bare nobody us (sound.entering entering) i (omega (arith, read_count p z t)))

  user_after : (i : ℕ) → i < p.count → get_or (balanced (read p)) i nobody ≡ with_share all (user_at p i) (atZ (user_shares (read p)) i)
  unfolding balanced
  user_after i l =
      zip_at (with_share all) nobody (pos 0) nobody us (user_shares (read p)) (shares_long (read p)) i (omega (arith, read_count p z t))
      ∙ ap (λ u. with_share all u (atZ (user_shares (read p)) i)) (user_is i l)

  module _ (zs : List ℤ) (q : (i : ℕ) → i < p.count → atZ (user_shares (read p)) i ≡ atZ zs i) where
    abbrev line : ℕ → List ℕ
    line = slot_line p.users p.consumption p.losses zs

    line_is : (i : ℕ) → i < p.count → user_line (with_share all (user_at p i) (atZ (user_shares (read p)) i)) ≡ line i
    line_is i l =
        let x = atZ (user_shares (read p)) i in
        line_as user_word (slot_number i) (slot_consumption i) (slot_losses i) (kinds_sum all (user_at p i) (full_at i l) x ∙ q i l)
        (whole_share all (user_at p i) (full_at i l) x (bare_at i l).revision ∙ ap₂ ◌+ℤ◌ (ap₂ ◌+ℤ◌ (slot_consumption i) (slot_losses i)) (q i l))

    lines_are : map user_line (balanced (read p)) ≡ table line p.count
    lines_are =
        let long : length (map user_line (balanced (read p))) ≡ p.count = length-map (balanced (read p)) user_line ∙ balanced_long (read p) ∙ read_count p z t in
        ext_get_or (user_line nobody) (map user_line (balanced (read p))) (table line p.count) (long ∙ sym (length_table line p.count))
        (λ i l.
        let k : i < p.count = omega (arith, long) in
        get_or-map user_line (balanced (read p)) i nobody
        ∙ ap user_line (user_after i k)
        ∙ line_is i k
        ∙ sym (getD_table line p.count i (user_line nobody) k))

    -- ---- the point's line

    same : (f : User → ℤ) → ((u : User) (x : ℤ) → f (with_share all u x) ≡ f u) → map f (balanced (read p)) ≡ map f us
    unfolding balanced
    same f k = map_zip f f (with_share all) k us (user_shares (read p)) (shares_long (read p))

    sum_consumption : totalZ (map consumption us) ≡ totalZ (take (KINDS * p.count) p.consumption)
    unfolding read
    sum_consumption =
        ap totalZ (map_table consumption (user_at p) p.count ∙ table_same (λ s. consumption (user_at p s)) (of_slot p.consumption) slot_consumption p.count)
        ∙ slots_total p.consumption p.count

    module _ (x : ℕ) (k : x ≡ all_offtake us) where
      net_is : net (read p) ≡ pos (e - w)
      net_is = unfold read in ap net_of m

      all_losses : totalZ (map losses (balanced (read p))) ≡ pos x -ℤ totalZ (take (KINDS * p.count) p.consumption)
      all_losses =
          ap totalZ (same losses (λ u x. refl))
          ∙ rest (pos (all_offtake us)) (totalZ (map consumption us)) (totalZ (map losses us)) (apart us)
          ∙ ap₂ (λ a c. pos a -ℤ c) (sym k) sum_consumption

      all_balance : totalZ (map balance (balanced (read p))) ≡ pos (e - w) -ℤ pos x
      unfolding balanced
      all_balance =
          ap totalZ (balances all us (user_shares (read p)) (shares_long (read p)) (read_full p z t))
          ∙ allot_shares (read p) sound entering filled
          ∙ ap₂ (λ n a. n -ℤ pos a) net_is (sym k)

      pub report_is : (g : ℕ) → shares_text g (e - w) x p.count p.users p.consumption p.losses zs ≡ text (in_order g (allot ∷ []) p)
      unfolding text
      report_is g =
          sym
          (ap text (day_after g)
          ∙ ap₂ ◌++◌
          (line_as point_word refl net_is (ap totalZ (same consumption (λ u x. refl)) ∙ sum_consumption) all_losses all_balance)
          (ap flat lines_are))
