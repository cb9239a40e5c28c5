-- The examples of document 01, section "Examples, P to be proved", hold, by computation. Assumes nothing.
use mathlib.Core.Path.{◌≡◌, refl, sym, ap, ◌∙◌}
use mathlib.Core.Bool.{true}
use mathlib.Core.List.{List, [], ◌∷◌, zip_with}
use Prim.Native.Nat.{ℕ, zero, suc}
use lib.IntN.{pos}
use lib.Count.{ones_in}
use Rattle.numbers.specs.Sums.{sum, table, total, totalZ}
use Rattle.numbers.specs.Lists.{every, has, distinct, rising, flat}
use Rattle.numbers.specs.Nearest.{nearest}
use Rattle.proration.specs.Proration.{before, left, share, split, counted, prorate, prorateZ}
use Rattle.point_day.specs.Day.{Day, fresh}
use Rattle.point_day.specs.Calls.{verdict, join, cell_step, cell_in, line_right, line, measure, balanced, allot, nearest_filled, looked_at, opened, stand_in, assigned, revise_by}
use Rattle.point_day.specs.Struct.{user_at, read, padded, laid, any, faults, taken, called}
use Rattle.point_day.specs.declared.PointDay.{PointDay}
use Rattle.point_day.specs.declared.Stage.TheVariants.{Provisional}
use Rattle.day_book.specs.Run as calls
use Rattle.day_book.specs.Run.{◌then◌, move, run}
use Rattle.wire.specs.Bytes.{little_endian}
use Rattle.wire.specs.Text.{digits_of, natural, decimal}
use Rattle.day_file.specs.Form.{sorted, none_overlap, sections_right, well_formed}
use Rattle.day_file.specs.File.{file_calls}
use Rattle.day_file.specs.Report.{allotted, in_order, report}
use Rattle.day_file.specs.Text.{spaced, text}
use Rattle.calendar.specs.Answers.{tested}
use Rattle.calendar.specs.Days.{holidays_right, calendar_right}
use Rattle.calendar.specs.DayTypes.{day_type, is_working}
use Rattle.months.specs.Months.{month_days, length_of, month_from, month_of}
use Rattle.months.specs.WorkingDays.{working_mask, N_lab, N_res}
use Rattle.degree_days.specs.Degrees.{temperatures_right, degree_days, degree_days_call}
use Rattle.zones.specs.Zones.{zone_of, zone_call}
use Rattle.supply.specs.Amounts.{flows_right, limited}
use Rattle.supply.specs.NewConsumer.{new_consumption}
use Rattle.history.specs.History as history
use Rattle.telemetered.specs.Telemetered.{from_history, values_right, telemetered}
use Rattle.type_1.specs.MonthConsumption.{month_other}
use Rattle.type_1.specs.DayShare.{day_of}
use Rattle.type_1.specs.Type1.{other_right, other_toll}
use Rattle.examples.specs.Examples.{Example, example, Holds, AllHold, Last, last, file_E, E_allotted, printed, examples}
use Rattle.point_day.specs.Day.{metered}

-- to unfold one of these is to compute: lists and proration; the calls; file E's calls; a text; the calendar; a supply point
lists : Unit {0}
unfolding prorateZ prorate counted split share left before nearest every has distinct rising flat zip_with sum table total totalZ
lists = tt

the_calls : Unit {0}
unfolding last run called taken faults any laid padded read user_at fresh verdict join line line_right cell_step cell_in measure allot balanced stand_in nearest_filled looked_at opened revise_by assigned
the_calls = tt

the_file : Unit {0}
unfolding E_allotted file_E report well_formed sections_right sorted none_overlap file_calls little_endian in_order
the_file = tt

the_text : Unit {0}
unfolding text spaced decimal natural digits_of printed
the_text = tt

the_calendar : Unit {0}
unfolding tested calendar_right holidays_right day_type is_working month_of month_from length_of month_days working_mask N_lab N_res ones_in
the_calendar = tt

the_supply : Unit {0}
unfolding degree_days_call degree_days temperatures_right zone_call zone_of telemetered values_right flows_right from_history history.history_right history.dated history.real_readings history.matching history.last_three history.sum_of history.mean_value history.looked_at history.is_new new_consumption other_toll other_right month_other day_of limited
the_supply = tt

-- ---- file E, computed once

E_day : Day
E_day = record {
  stage = Provisional;
  allotted = true;
  measurement = metered 1000 100;
  users =
      record {
        number = 7;
        consumption = 300 ∷ 0 ∷ 200 ∷ 0 ∷ 0 ∷ [];
        losses = 3 ∷ 0 ∷ 0 ∷ 0 ∷ 0 ∷ [];
        balance = pos 0 ∷ pos 0 ∷ pos 96 ∷ pos 0 ∷ pos 0 ∷ [];
        revision = pos 0;
      }
      ∷ record {
        number = 9;
        consumption = 0 ∷ 0 ∷ 0 ∷ 0 ∷ 150 ∷ [];
        losses = 0 ∷ 0 ∷ 0 ∷ 0 ∷ 3 ∷ [];
        balance = pos 0 ∷ pos 0 ∷ pos 0 ∷ pos 0 ∷ pos 74 ∷ [];
        revision = pos 0;
      }
      ∷ record {
        number = 12;
        consumption = 0 ∷ 50 ∷ 0 ∷ 0 ∷ 0 ∷ [];
        losses = 0 ∷ 0 ∷ 0 ∷ 0 ∷ 0 ∷ [];
        balance = pos 0 ∷ pos 24 ∷ pos 0 ∷ pos 0 ∷ pos 0 ∷ [];
        revision = pos 0;
      }
      ∷ [];
}

report_of_E : report file_E ≡ allotted 152 E_day
unfolding E_day lists the_calls the_file
report_of_E = refl

point_day_of_E : run E_allotted ≡ laid E_day
unfolding E_day lists the_calls the_file
point_day_of_E = refl

-- what is the text of E's day is the text of E's report
text_of_E : (t : List ℕ) → t ≡ text (allotted 152 E_day) → t ≡ text (report file_E)
text_of_E t p = p ∙ ap text (sym report_of_E)

-- revise, once a point-day is measured again
revised_at : ℕ → PointDay → Last
revised_at emission d = last calls.revise (called (move (calls.measure emission 100)) d).day

-- what it gives of E's day it gives of E
revised_E : (emission : ℕ) (l : Last) → l ≡ revised_at emission (laid E_day) → l ≡ last calls.revise (run (E_allotted then calls.measure emission 100))
unfolding revised_at run
revised_E emission l p = p ∙ ap (revised_at emission) (sym point_day_of_E)

-- ---- the list

-- example n of the list, from 0
nth : List Example → ℕ → Example
nth [] n = example {A = ℕ} "" 0 0
nth (e ∷ es) zero = e
nth (e ∷ es) (suc n) = nth es n

P : ℕ → Example
unfolding examples nth
P n = nth examples n

p1 : Holds (P 0)
unfolding P lists the_text E_day
p1 = text_of_E (P 0).in_document refl

p8 : Holds (P 8)
unfolding P lists the_calls revised_at E_day
p8 = revised_E 1100 (P 8).in_document refl

p8_instead : Holds (P 9)
unfolding P lists the_calls revised_at E_day
p8_instead = revised_E 1101 (P 9).in_document refl

pub all_hold : AllHold examples
unfolding P lists the_calls the_calendar the_supply
all_hold = (p1, (refl, (refl, (refl, (refl, (refl, (refl, (refl, (p8, (p8_instead, (refl, (refl, tt))))))))))))
