-- The columns of a taken point-day for a revision, from what its test found: how they are computed, and how large their amounts are.
-- Assumes nothing.
use mathlib.Core.Path.{◌≡◌, sym, ap, ap₂, ◌∙◌}
use mathlib.Core.Bool.{true, false, not}
use mathlib.Core.List.{List, map}
use Prim.Native.Nat.{ℕ, ◌≤◌, ◌<◌}
use native.Mathlib.Omega.{arith}
use lib.IntN.{ℤ, nat_abs, ◌-ℤ◌}
use lib.Seq.{length-take-le}
use lib.ListN.{length, take, length-take, length-map}
use mir.Syntax.{w64}
use mir.Val.{of_z, to_z}
use borrow.Author.Tests.{leb-true, not-false}
use Rattle.numbers.specs.Sums.{table, atZ, total}
use Rattle.numbers.specs.Lists.{both, distinct}
use Rattle.numbers.specs.Amounts.{SAFE, Within, is_negative}
use Rattle.numbers.proofs.Lists.{both_snd, All, all_every, all_map, map_map}
use Rattle.proration.specs.Proration.{prorateZ}
use Rattle.point_day.specs.Limits.{LIMIT, AMOUNT}
use Rattle.point_day.specs.Day.{User, numbers, whole, all_whole, net_of, no_more, provisional}
use Rattle.point_day.specs.Calls.{negative}
use Rattle.point_day.specs.Struct.{user_at, read, sum_right}
use Rattle.point_day.specs.declared.PointDay.{PointDay}
use Rattle.point_day.proofs.Taken.{Taken, taken_facts}
use Rattle.point_day.proofs.Back.{map_table, read_count, read_numbers}
use Rattle.point_day.proofs.Each.{map_of_all, some_length}
use Rattle.state.specs.Places.{whole_at}
use Rattle.state.proofs.Cells.{between_size, within_from}
use Rattle.state.proofs.Totals.{whole_is}
use Rattle.taken.specs.Tested.{Known}
use Rattle.taken.specs.declared.State.{State}
use Rattle.taken.proofs.Facts.{facts, sum_kept, known_few}
use Rattle.columns.proofs.Padding.{table_by, all_within}
use Rattle.columns.proofs.Shared.{sizes_sum}
use Rattle.revise.specs.Revisions.{outstanding, shares}

module _ {d : PointDay} {s : State} (k : Known d s) where
  abbrev t : Taken d
  t = taken_facts d k.is_taken

  abbrev us : List User
  us = (read d).users

  count : length us ≡ s.count
  count = read_count d k.sized t ∙ k.count

  -- ---- the stage

  pub open_is : both (provisional d.stage) d.allotted ≡ both (provisional s.stage) s.allotted
  open_is = ap₂ (λ g a. both (provisional g) a) k.stage k.allotted

  -- ---- the users

  pub users_long : length (take s.count s.users) ≡ s.count
  users_long = length-take-le s.count s.users (omega (arith, known_few k, ap length k.users, k.sized.users))

  pub apart : distinct (take s.count s.users) ≡ true
  apart = rw (k.count, k.users) at (facts d k.sized k.is_taken).apart

  -- an allotted one has a user
  pub filled : s.allotted ≡ true → 0 < s.count
  filled e = omega (arith, some_length us (t.standing (k.allotted ∙ e)).0, count)

  -- ---- the sum of the whole amounts, as the code holds it

  abbrev held : ℤ
  held = to_z w64 (of_z w64 s.sum)

  held_is : held ≡ all_whole us
  held_is = sum_kept d k.sized k.is_taken k.sum

  pub held_right : sum_right held ≡ true
  held_right = ap sum_right held_is ∙ t.sum

  pub held_safe : Within SAFE held
  held_safe = record { size = omega (arith, leb-true (nat_abs held) LIMIT (both_snd (not (is_negative held)) _ held_right)) }

  -- R
  pub outstanding_is : net_of s.measurement -ℤ held ≡ outstanding d
  unfolding outstanding read
  outstanding_is = ap₂ (λ m x. net_of m -ℤ x) (sym k.measurement) held_is

  -- ---- whole amounts

  wholes_table : table (whole_at d.consumption d.losses d.balance d.revision) d.count ≡ map whole us
  unfolding read
  wholes_table =
      table_by (whole_at d.consumption d.losses d.balance d.revision) (λ i. whole (user_at d i)) d.count (λ i l. sym (whole_is d k.sized t.consumption t.losses i (omega (arith, t.few))))
      ∙ sym (map_table whole (user_at d) d.count)

  -- those at the start of a column
  module _ {ws : List ℤ} (e : ws ≡ s.wholes) where
    pub wholes_are : take s.count ws ≡ map whole us
    wholes_are = ap₂ take (sym k.count) e ∙ k.wholes ∙ wholes_table

    wholes_small : (i : ℕ) → Within AMOUNT (atZ (take s.count ws) i)
    wholes_small i = rw wholes_are (all_within AMOUNT (map whole us) all_small i)
      where
        all_small : All (λ z. nat_abs z ≤ AMOUNT) (map whole us)
        all_small =
            map_of_all (λ z. nat_abs z ≤ AMOUNT) whole us
            (all_map (λ u. no_more AMOUNT (whole u) ≡ true) _ (λ u h. leb-true (nat_abs (whole u)) AMOUNT h) us
            (all_every _ us (not-false _ t.wholes)))

    pub wholes_long : length (take s.count ws) ≡ s.count
    wholes_long = ap length wholes_are ∙ length-map us whole ∙ count

    pub wholes_reach : s.count ≤ length ws
    wholes_reach = omega (arith, wholes_long, length-take s.count ws)

    -- as many as there are numbers of users
    abbrev numbered : List ℤ
    numbered = take (length (take s.count s.users)) ws

    pub numbered_are : numbered ≡ map whole us
    numbered_are = ap (λ n. take n ws) users_long ∙ wholes_are

    pub numbered_small : (i : ℕ) → Within AMOUNT (atZ numbered i)
    numbered_small = rw users_long wholes_small

    -- the size of their sum is the sum of their sizes
    pub weights_sum : negative (map whole us) ≡ false → nat_abs held ≡ total (map nat_abs numbered)
    weights_sum n = ap nat_abs held_is ∙ sizes_sum (map whole us) n ∙ sym (ap (λ zs. total (map nat_abs zs)) numbered_are)

    -- R prorated by them
    pub shares_are : {R : ℤ} → R ≡ outstanding d → shares R (take s.count s.users) numbered ≡ prorateZ (outstanding d) (map (λ u. nat_abs (whole u)) us) (numbers us)
    shares_are {R} q =
        ap₂ (prorateZ R) (ap (map nat_abs) numbered_are ∙ map_map nat_abs whole us) (ap₂ take (sym k.count) (sym k.users) ∙ sym (read_numbers d k.sized t))
        ∙ ap (λ x. prorateZ x (map (λ u. nat_abs (whole u)) us) (numbers us)) q

  -- ---- revisions

  pub revisions_small : (i : ℕ) → Within AMOUNT (atZ d.revision i)
  revisions_small = within_from AMOUNT d.revision (λ i l q. between_size (atZ d.revision i) ((facts d k.sized k.is_taken).arrays.revision.range i l q)) AMOUNT (omega arith)
