-- What holds of a point of another toll once the tests have passed, and the days that share. Assumes nothing.
use mathlib.Core.Path.{◌≡◌, sym, ◌∙◌}
use mathlib.Core.Bool.{Bool, true, false, not}
use mathlib.Core.List.{List}
use Prim.Native.Nat.{ℕ, ◌-◌, ◌≤◌}
use lib.Dec.{leb}
use borrow.Author.Tests.{leb-true, not-false}
use Rattle.std.specs.Prelude.{Option}
use Rattle.numbers.specs.Sums.{pick}
use Rattle.numbers.specs.Lists.{both, rising}
use Rattle.numbers.proofs.Lists.{both_fst, both_snd}
use Rattle.calendar.specs.Days.{LAST_DAY, calendar_right}
use Rattle.calendar.specs.DayTypes.{day_type, is_working, is_working_type}
use Rattle.calendar.specs.declared.DayType.{DayType}
use Rattle.calendar.proofs.Holidays.{calendar_day, calendar_rising}
use Rattle.months.specs.Months.{month_of}
use Rattle.months.specs.WorkingDays.{N_lab, N_res}
use Rattle.months.specs.declared.Month.{Month}
use Rattle.months.proofs.Months.{Holds, month_holds}
use Rattle.supply.specs.Amounts.{THOUSAND, MOST_C_c, amount_right}
use Rattle.type_1.specs.MonthConsumption.{SmallBasis, month_other}
use Rattle.type_1.specs.Type1.{other_right, sharing}
use Rattle.type_1.proofs.Bases.{small_other}
use Rattle.type_1.proofs.Passed34.{Amounts, amounts_right}

pub record RightOther (d : ℕ) (hs : List ℕ) (ly : Option ℕ) (cc : ℕ) (lm q : Option ℕ) (fc cf : ℕ) : Type 0 where
  pub day : d ≤ LAST_DAY
  pub rises : rising hs ≡ true
  pub amounts : Amounts ly lm q
  pub corrected : cc ≤ MOST_C_c
  pub factor : fc ≤ THOUSAND
  pub share : cf ≤ THOUSAND

module _ (d : ℕ) (hs : List ℕ) (ly : Option ℕ) (cc : ℕ) (lm q : Option ℕ) (fc cf : ℕ) {r : Bool} (e : r ≡ other_right d hs ly cc lm q fc cf) (f : not r ≡ false) where
  pub passed : RightOther d hs ly cc lm q fc cf
  unfolding other_right
  passed =
      let h : other_right d hs ly cc lm q fc cf ≡ true = sym e ∙ not-false _ f in
      let k = both_snd (calendar_right d hs) _ h in
      let l = both_snd (both (amount_right ly) (both (amount_right lm) (amount_right q))) _ k in
      let m = both_snd (leb cc MOST_C_c) _ l in
      record {
        day = calendar_day d hs (both_fst _ _ h);
        rises = calendar_rising d hs (both_fst _ _ h);
        amounts = amounts_right ly lm q (both_fst _ _ k);
        corrected = leb-true cc MOST_C_c (both_fst _ _ l);
        factor = leb-true fc THOUSAND (both_fst _ _ m);
        share = leb-true cf THOUSAND (both_snd (leb fc THOUSAND) _ m);
      }

  pub holds : Holds d (month_of d)
  holds = month_holds d passed.day

  pub small : SmallBasis (month_other ly cc lm q fc (month_of d).days)
  small =
      let a = passed.amounts in
      small_other _ _ _ _ _ _ a.one a.two a.three passed.corrected passed.factor holds.long.most

-- the days that share, as the calls give them
pub shared : (hs : List ℕ) (d : ℕ) {m : Month} {t : DayType} {w : Bool} {lab n : ℕ} → m ≡ month_of d → t ≡ day_type hs d → w ≡ is_working_type t → lab ≡ N_lab hs m → n ≡ pick w lab (m.days - lab)
    → n ≡ sharing (is_working hs d) hs (month_of d)
unfolding N_res is_working
shared hs d e f g h k = k ∙ rw (g, f, h, e)
