-- Document 01, section "Consumption of a supply point", "Telemetered", and document 02, Req 01: cases. Assumes nothing.
use Rattle.std.specs.Prelude.{◌≡◌, refl, ℕ, [], ◌∷◌, Option, None, Some}
use Rattle.numbers.specs.Nearest.{nearest}
use Rattle.numbers.specs.Sums.{total}
use Rattle.numbers.specs.Lists.{every, has, rising}
use Rattle.numbers.specs.Refusals.{verdict}
use Rattle.calendar.specs.Answers.{Answer, refused, given, tested}
use Rattle.calendar.specs.Days.{holidays_right, calendar_right}
use Rattle.calendar.specs.DayTypes.{day_type}
use Rattle.supply.specs.Amounts.{flows_right}
use Rattle.history.specs.History.{history_right, dated, real_readings, matching, last_three, sum_of, mean_value, looked_at, is_new}
use Rattle.telemetered.specs.Telemetered.{from_history, values_right, telemetered}
use Rattle.telemetered.specs.declared.Estimate.{Estimate}
use Rattle.telemetered.specs.declared.own_value.OwnValue.{OwnValue}
use Rattle.supply.specs.NewConsumer.{new_consumption}
use Rattle.supply.specs.declared.Toll.TheVariants.{OtherToll}
use Rattle.supply.specs.declared.Flows.{Flows}
use Rattle.history.specs.declared.Reading.{Reading}
use Rattle.history.specs.declared.Reading.TheVariants.{Nothing, Real, Own}
use Rattle.history.specs.declared.Entry.{Entry}

abbrev entry : Reading → Entry
entry r = record { reading = r }

abbrev no_flows : Flows
no_flows = record { toll = OtherToll; yearly = None; daily = None; factor = 750 }

-- the third match ends the search: an eighth entry and more are not looked at
longer : telemetered 14 [] None None no_flows 9 (entry (Own 5) ∷ entry Nothing ∷ entry (Real 10) ∷ entry (Real 10) ∷ entry (Real 1) ∷ entry (Real 1) ∷ entry (Real 11) ∷ entry (Real 9999) ∷ entry (Real 9999) ∷ []) ≡ given (record { kwh = 10; looked = 7 })
unfolding telemetered values_right tested calendar_right holidays_right rising every flows_right history_right from_history dated real_readings matching last_three sum_of mean_value looked_at is_new day_type has total nearest
longer = refl

-- ---- a user's own value

abbrev own : ℕ → ℕ → ℕ → Option OwnValue
own v a l = Some (record { kwh = v; arrival = a; length = l })

-- of a point with one real reading, 8 kWh, on the day before; both days are working days
abbrev point : Option ℕ → Option OwnValue → Answer Estimate
point reading v = telemetered 5 [] reading v no_flows 1 (entry (Real 8) ∷ [])

abbrev used : Answer Estimate
used = given (record { kwh = 5; looked = 0 })

abbrev mean : Answer Estimate
mean = given (record { kwh = 8; looked = 1 })

-- at and past length − 720, of each length
at_the_limit : (point None (own 5 660 1380) ≡ used) × (point None (own 5 720 1440) ≡ used) × (point None (own 5 780 1500) ≡ used)
unfolding telemetered values_right tested verdict calendar_right holidays_right rising every flows_right history_right has
at_the_limit = (refl, refl, refl)

past_the_limit : (point None (own 5 661 1380) ≡ mean) × (point None (own 5 721 1440) ≡ mean) × (point None (own 5 781 1500) ≡ mean)
unfolding telemetered values_right tested verdict calendar_right holidays_right rising every flows_right history_right has from_history dated real_readings matching last_three sum_of mean_value looked_at is_new day_type total nearest
past_the_limit = (refl, refl, refl)

-- "length is none of the three, or arrival exceeds it": at the length itself it doesn't
at_the_length : (point None (own 5 1440 1440) ≡ mean) × (point None (own 5 1441 1440) ≡ refused 16) × (point None (own 5 0 1410) ≡ refused 16)
unfolding telemetered values_right tested verdict calendar_right holidays_right rising every flows_right history_right has from_history dated real_readings matching last_three sum_of mean_value looked_at is_new day_type total nearest
at_the_length = (refl, refl, refl)

-- 2, then 16, a reading or not, then 15
in_order : (point None (own 1000000001 1440 1440) ≡ refused 2) × (point None (own 1000000001 1441 1440) ≡ refused 2)
    × (point (Some 5) (own 5 1441 1440) ≡ refused 16) × (telemetered 5 [] None (own 5 1441 1440) no_flows 0 [] ≡ refused 16)
    × (telemetered 5 [] None (own 5 1440 1440) no_flows 0 [] ≡ refused 15) × (telemetered 5 [] (Some 5) (own 5 1441 1440) no_flows 6 [] ≡ refused 2)
unfolding telemetered values_right tested verdict calendar_right holidays_right rising every flows_right history_right has from_history dated real_readings matching last_three is_new new_consumption
in_order = (refl, refl, refl, refl, refl, refl)
