-- What holds of a point of toll 3.4 once the tests have passed. Assumes nothing.
use mathlib.Core.Path.{◌≡◌, sym, ◌∙◌}
use mathlib.Core.Bool.{Bool, true, false, not}
use mathlib.Core.List.{List}
use Prim.Native.Nat.{ℕ, ◌≤◌}
use borrow.Author.Tests.{leb-true, not-false}
use Rattle.std.specs.Prelude.{Option}
use Rattle.numbers.specs.Lists.{both}
use Rattle.numbers.proofs.Lists.{both_fst, both_snd}
use Rattle.calendar.specs.Days.{LAST_DAY, is_gas_day}
use Rattle.temperature.specs.Temperature.{MOST_DEGREES, is_degrees, C_temp1, Corrects}
use Rattle.temperature.proofs.Fractions.{corrects}
use Rattle.temperature.proofs.Means.{Month, mean_sound}
use Rattle.supply.specs.Amounts.{amount_right}
use Rattle.type_1.specs.MonthConsumption.{SmallBasis, month_34}
use Rattle.type_1.specs.Type1.{toll_34_right}
use Rattle.type_1.proofs.Bases.{small_34}
use Rattle.type_1.proofs.Tolls.{last_month}

-- three amounts in range
pub record Amounts (a b c : Option ℕ) : Type 0 where
  pub one : amount_right a ≡ true
  pub two : amount_right b ≡ true
  pub three : amount_right c ≡ true

pub amounts_right : (a b c : Option ℕ) → both (amount_right a) (both (amount_right b) (amount_right c)) ≡ true → Amounts a b c
amounts_right a b c h =
    let k = both_snd (amount_right a) _ h in
    record { one = both_fst _ _ h; two = both_fst _ _ k; three = both_snd (amount_right b) _ k }

pub record Right34 (d : ℕ) (ly : Option ℕ) (g : ℕ) (ds : List ℕ) (lm q : Option ℕ) : Type 0 where
  pub day : d ≤ LAST_DAY
  pub amounts : Amounts ly lm q
  pub degrees : g ≤ MOST_DEGREES
  pub month : Month ds

module _ (d : ℕ) (ly : Option ℕ) (g : ℕ) (ds : List ℕ) (lm q : Option ℕ) {r : Bool} (e : r ≡ toll_34_right d ly g ds lm q) (f : not r ≡ false) where
  pub passed : Right34 d ly g ds lm q
  unfolding toll_34_right
  passed =
      let h : toll_34_right d ly g ds lm q ≡ true = sym e ∙ not-false _ f in
      let k = both_snd (is_gas_day d) _ h in
      let l = both_snd (both (amount_right ly) (both (amount_right lm) (amount_right q))) _ k in
      record {
        day = leb-true d LAST_DAY (both_fst _ _ h);
        amounts = amounts_right ly lm q (both_fst _ _ k);
        degrees = leb-true g MOST_DEGREES (both_fst _ _ l);
        month = last_month d ds (both_snd (is_degrees g) _ l);
      }

  pub corrected : Corrects (C_temp1 g ds)
  corrected = corrects _ _ passed.degrees (mean_sound _ passed.month)

  pub small : SmallBasis (month_34 ly (C_temp1 g ds) lm q)
  small =
      let a = passed.amounts in
      small_34 _ _ _ _ a.one a.two a.three corrected
