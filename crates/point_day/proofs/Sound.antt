-- What the day of every taken point-day has, and every day that calls reach from fresh: enough for the laws of whole amounts. Assumes nothing.
use mathlib.Core.Path.{◌≡◌, refl, ap, ap₂, ◌∙◌}
use mathlib.Core.Bool.{true, false}
use mathlib.Core.List.{List, [], ◌∷◌}
use Prim.Native.Nat.{suc, ◌≤◌}
use native.Mathlib.Omega.{arith}
use lib.Dec.{leb}
use lib.IntN.{ℤ, pos, negsuc, nat_abs, ◌+ℤ◌, +ℤ_idr}
use borrow.Author.Tests.{eqb-true, leb-true}
use Rattle.numbers.specs.Sums.{total, totalZ}
use Rattle.numbers.specs.Lists.{every, distinct}
use Rattle.numbers.proofs.Lists.{All, all_every, all_map, both_fst, both_snd}
use Rattle.point_day.specs.Limits.{LIMIT}
use Rattle.point_day.specs.Day.{User, Day, numbers, offtake, all_offtake, whole, all_whole, net_of, is_zero, measurement_right}
use Rattle.point_day.specs.Struct.{Sized, read, unallotted}
use Rattle.point_day.specs.declared.Measurement.{Measurement}
use Rattle.point_day.specs.declared.PointDay.{PointDay}
use Rattle.point_day.proofs.Taken.{Taken}
use Rattle.point_day.proofs.Arrays.{Full}
use Rattle.point_day.proofs.Back.{read_full}
use Rattle.std.specs.Prelude.{Option, None, Some}

-- a user while entering
pub record Bare (u : User) : Type 0 where
  pub balance : every is_zero u.balance ≡ true
  pub revision : u.revision ≡ pos 0

pub record Sound (d : Day) : Type 0 where
  pub apart : distinct (numbers d.users) ≡ true
  pub measurement : measurement_right d.measurement ≡ true
  pub full : All Full d.users
  pub sum : all_offtake d.users ≤ LIMIT
  pub entering : d.allotted ≡ false → All Bare d.users

-- ---- bare users

zero_is : (z : ℤ) → is_zero z ≡ true → z ≡ pos 0
zero_is (pos n) e = ap pos (eqb-true n 0 e)
zero_is (negsuc n) e = absurd (omega (arith, eqb-true (suc n) 0 e))

pub sum_zeros : (zs : List ℤ) → every is_zero zs ≡ true → totalZ zs ≡ pos 0
unfolding totalZ every
sum_zeros [] e = refl
sum_zeros (z ∷ zs) e = ap₂ ◌+ℤ◌ (zero_is z (both_fst _ _ e)) (sum_zeros zs (both_snd (is_zero z) _ e))

-- the whole amount is consumption plus losses
pub bare_whole : (u : User) → Bare u → whole u ≡ pos (offtake u)
bare_whole u h = ap₂ (λ b r. pos (offtake u) +ℤ (b +ℤ r)) (sum_zeros u.balance h.balance) h.revision ∙ +ℤ_idr (pos (offtake u))

pub bare_all : (us : List User) → All Bare us → all_whole us ≡ pos (all_offtake us)
unfolding totalZ total
bare_all [] h = refl
bare_all (u ∷ us) h = ap₂ ◌+ℤ◌ (bare_whole u h.0) (bare_all us h.1)

-- ---- net

-- "0 to 1,000,000,000"
pub net_pos : (m : Option Measurement) → net_of m ≡ pos (nat_abs (net_of m))
net_pos None = refl
net_pos (Some m) = refl

pub net_small : (m : Option Measurement) → measurement_right m ≡ true → nat_abs (net_of m) ≤ LIMIT
net_small None h = omega arith
net_small (Some m) h =
    omega (arith, leb-true m.emission LIMIT (both_fst (leb m.emission LIMIT) (leb m.downstream m.emission) h))

-- ---- a taken point-day

pub taken_sound : (d : PointDay) → Sized d → Taken d → Sound (read d)
taken_sound d z t = record {
  apart = t.apart;
  measurement = unfold read in t.measurement;
  full = read_full d z t;
  sum = t.offtake;
  entering = λ e.
      all_map (λ u. unallotted u ≡ true) Bare
      (λ u h. record { balance = both_fst (every is_zero u.balance) _ h; revision = zero_is u.revision (both_snd (every is_zero u.balance) _ h) })
      (read d).users
      (all_every unallotted (read d).users (t.entering (unfold read in e)));
}
