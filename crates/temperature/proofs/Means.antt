-- The means of months, and of one or two winters. Assumes nothing.
use mathlib.Core.Path.{◌≡◌}
use mathlib.Core.Bool.{true, false}
use mathlib.Core.List.{List}
use mathlib.Core.Logic.{⊎_elim}
use Prim.Native.Nat.{ℕ, ◌≤◌}
use native.Mathlib.Omega.{arith}
use native.Mathlib.Nat.{mul-pos}
use lib.Dec.{eqb}
use lib.ListN.{length}
use borrow.Author.Tests.{eqb-false}
use Rattle.std.proofs.lemmas.Grind.{common_steps}
use Rattle.numbers.specs.Lists.{every}
use Rattle.numbers.proofs.Sums.{cases}
use Rattle.temperature.specs.Temperature.{FEWEST_DAYS, MOST_DAYS, MOST_DEGREES, is_degrees, mean, Sound, MonthMean, winters_mean, winter_right, winters_right}
use Rattle.temperature.proofs.Fractions.{cross, bottoms}
use Rattle.numbers.proofs.Totals.{total_most}

-- the degree days of a month
pub record Month (ds : List ℕ) : Type 0 where
  pub least : FEWEST_DAYS ≤ length ds
  pub most : length ds ≤ MOST_DAYS
  pub range : every is_degrees ds ≡ true

pub winter_month : (ds : List ℕ) → winter_right ds ≡ true → Month ds
unfolding winter_right
winter_month ds e = grind (arith, common_steps)

pub winter_range : (ds : List ℕ) → winter_right ds ≡ true → every is_degrees ds ≡ true
winter_range ds e = (winter_month ds e).range

pub month_mean : (ds : List ℕ) → Month ds → MonthMean (mean ds)
unfolding mean
month_mean ds m = record { top = omega (arith, total_most MOST_DEGREES ds m.range, m.most); bottom = m.most }

pub mean_sound : (ds : List ℕ) → Month ds → Sound (mean ds)
unfolding mean
mean_sound ds m = record { top = omega (arith, (month_mean ds m).top); some = omega (arith, m.least); bottom = omega (arith, m.most) }

module _ (k : ℕ) (first second : List ℕ) (h : winters_right k first second ≡ true) where
  pub some_winter : Month first
  unfolding winters_right
  some_winter = grind (arith, common_steps, winter_month first)

  pub second_winter : (k ≡ 1 → ⊥) → Month second
  unfolding winters_right
  second_winter n = grind (arith, common_steps, winter_month second)

  pub winters_sound : Sound (winters_mean k first second)
  unfolding winters_mean
  winters_sound = ⊎_elim (λ e. rw e (mean_sound first some_winter)) two_sound (cases (eqb k 1))
    where
      two_sound : eqb k 1 ≡ false → Sound (winters_mean k first second)
      two_sound e =
          let a = some_winter in
          let b = second_winter (eqb-false k 1 e) in
          let m = mean_sound first a in
          let n = mean_sound second b in
          rw e (record {
            top = omega (arith, cross (month_mean first a) (month_mean second b), cross (month_mean second b) (month_mean first a));
            some = omega (arith, mul-pos m.some n.some);
            bottom = omega (arith, bottoms (month_mean first a) (month_mean second b));
          })

pub ruleset winter_means = (winter_month, winter_range, month_mean)
