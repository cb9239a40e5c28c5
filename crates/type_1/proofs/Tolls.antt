-- What the tests of the Type 1 calls tell, and the days that share a month's consumption. Assumes nothing.
use mathlib.Core.Path.{◌≡◌}
use mathlib.Core.Bool.{true, false}
use mathlib.Core.List.{List}
use mathlib.Core.Logic.{⊎_elim}
use Prim.Native.Nat.{ℕ, ◌-◌, ◌≤◌}
use native.Mathlib.Omega.{arith}
use Rattle.std.proofs.lemmas.Bool.Decides.{nat_tests}
use Rattle.std.proofs.lemmas.Grind.{common_steps}
use Rattle.numbers.specs.Sums.{pick}
use Rattle.numbers.proofs.Sums.{cases}
use Rattle.calendar.specs.Days.{LAST_DAY}
use Rattle.calendar.specs.DayTypes.{is_working}
use Rattle.calendar.proofs.Holidays.{calendar_day}
use Rattle.months.specs.Months.{month_of}
use Rattle.months.specs.WorkingDays.{N_lab, N_res}
use Rattle.months.proofs.Months.{month_length, month_holds}
use Rattle.months.proofs.Masks.{some_working, some_other, working_all}
use Rattle.temperature.specs.Temperature.{MOST_DAYS}
use Rattle.temperature.proofs.Fractions.{corrects}
use Rattle.temperature.proofs.Means.{Month, mean_sound}
use Rattle.type_1.specs.Type1.{last_days_right, sharing}
use Rattle.type_1.proofs.Bases.{small_34, small_other}

pub last_month : (d : ℕ) (ds : List ℕ) → last_days_right d ds ≡ true → Month ds
unfolding last_days_right
last_month d ds h = grind (arith, common_steps, month_length ((month_of d).year - 1) (month_of d).number)

-- some days share, and no more than a month has
pub record Shares (n : ℕ) : Type 0 where
  pub some : 1 ≤ n
  pub most : n ≤ MOST_DAYS

pub all_share : (d : ℕ) → d ≤ LAST_DAY → Shares (month_of d).days
all_share d l = let h = (month_holds d l).long in record { some = omega (arith, h.least); most = h.most }

pub begins_within : (d : ℕ) → d ≤ LAST_DAY → (month_of d).first ≤ LAST_DAY
begins_within d l = omega (arith, (month_holds d l).from)

pub ruleset for_34 = (nat_tests, last_month, mean_sound, corrects, small_34, all_share)

pub lab_within : (hs : List ℕ) (d : ℕ) → d ≤ LAST_DAY → N_lab hs (month_of d) ≤ (month_of d).days
lab_within hs d l = working_all hs d (month_of d) (month_holds d l)

pub shares : (hs : List ℕ) (d : ℕ) → d ≤ LAST_DAY → Shares (sharing (is_working hs d) hs (month_of d))
unfolding N_res
shares hs d l = ⊎_elim on_working on_other (cases (is_working hs d))
  where
    on_working : is_working hs d ≡ true → Shares (pick (is_working hs d) (N_lab hs (month_of d)) ((month_of d).days - N_lab hs (month_of d)))
    on_working e =
        let h = month_holds d l in
        rw e (record { some = some_working hs d (month_of d) h e; most = omega (arith, working_all hs d (month_of d) h, h.long.most) })

    on_other : is_working hs d ≡ false → Shares (pick (is_working hs d) (N_lab hs (month_of d)) ((month_of d).days - N_lab hs (month_of d)))
    on_other e =
        let h = month_holds d l in
        rw e (record { some = omega (arith, some_other hs d (month_of d) h e); most = omega (arith, h.long.most) })

pub ruleset for_other = (nat_tests, calendar_day, begins_within, all_share, small_other, shares, lab_within)
