-- Values that stand in lists of numbers: an optional amount, a toll, a history. What has no meaning stands for a value out of its range, so that
-- the call refuses it with 2. Assumes nothing.
use Rattle.std.specs.Prelude.{Option, None, Some, List, [], ◌∷◌, ◌≡◌, refl, ℕ, ◌+◌, eqb, leb, length}
use Rattle.numbers.specs.Sums.{pick, table, at}
use Rattle.numbers.specs.Lists.{every, has, rising}
use Rattle.calendar.specs.Answers.{Answer, refused, given, verdict, tested}
use Rattle.calendar.specs.Days.{calendar_right, holidays_right}
use Rattle.supply.specs.Amounts.{LIMIT, THOUSAND, flows_right}
use Rattle.supply.specs.declared.Toll.{Toll}
use Rattle.supply.specs.declared.Toll.TheVariants.{Toll34, OtherToll}
use Rattle.supply.specs.declared.Flows.{Flows}
use Rattle.history.specs.History.{ENTRIES, history_right}
use Rattle.telemetered.specs.declared.Estimate.{Estimate}
use Rattle.telemetered.specs.declared.own_value.OwnValue.{OwnValue}
use Rattle.telemetered.specs.Telemetered.{values_right, telemetered}
use Rattle.history.specs.declared.Reading.{Reading}
use Rattle.history.specs.declared.Reading.TheVariants.{Nothing, Real, Estimated, Own}
use Rattle.history.specs.declared.Entry.{Entry}

-- an amount that may be missing: no number, or one; more are out of range
abbrev pub amount_in : List ℕ → Option ℕ
amount_in [] = None
amount_in (v ∷ []) = Some v
amount_in (v ∷ w ∷ vs) = Some (LIMIT + 1)

-- the user's own value, that may be missing, with its arrival and the length of the gas day
abbrev pub arrived : Option ℕ → ℕ → ℕ → Option OwnValue
arrived None a l = None
arrived (Some v) a l = Some (record { kwh = v; arrival = a; length = l })

abbrev pub own_in : List ℕ → ℕ → ℕ → Option OwnValue
own_in vs = arrived (amount_in vs)

-- 0 another toll, 1 toll 3.4
abbrev pub toll_in : ℕ → Toll
toll_in n = pick (eqb n 1) Toll34 OtherToll

-- f_c, out of its range by a toll's number that has no meaning
abbrev pub factor_in : ℕ → ℕ → ℕ
factor_in toll factor = pick (leb toll 1) factor (THOUSAND + 1)

-- contracted flows
abbrev pub flows_in : ℕ → List ℕ → List ℕ → ℕ → Flows
flows_in toll yearly daily factor = record {
  toll = toll_in toll;
  yearly = amount_in yearly;
  daily = amount_in daily;
  factor = factor_in toll factor;
}

-- an entry by its tag: 0 nothing, 1 real, 2 estimated, 3 the user's own; by another tag it is out of range
unfoldable pub reading_in : ℕ → ℕ → Reading
reading_in tag v =
    pick (eqb tag 0) Nothing (pick (eqb tag 1) (Real v) (pick (eqb tag 2) (Estimated v) (pick (eqb tag 3) (Own v) (Real (LIMIT + 1)))))

abbrev pub entry_in : List ℕ → List ℕ → ℕ → Entry
entry_in tags values i = record { reading = reading_in (at tags i) (at values i) }

-- the entries of a history, nearest day first
unfoldable pub entries_in : List ℕ → List ℕ → List Entry
entries_in tags values = table (entry_in tags values) (length tags)

-- how many there are; lists of unequal length are too long a history
abbrev pub entry_count : List ℕ → List ℕ → ℕ
entry_count tags values = pick (eqb (length tags) (length values)) (length tags) (ENTRIES + 1)

-- ---- cases: what has no meaning is refused with 2

-- an entry by tag 4; two numbers for a reading or an own value; a toll 2; a tag without a value
abbrev flat : List ℕ → List ℕ → ℕ → List ℕ → List ℕ → Answer Estimate
flat reading own toll tags values =
    telemetered 10 [] (amount_in reading) (own_in own 720 1440) (flows_in toll [] (700 ∷ []) 750) (entry_count tags values) (entries_in tags values)

unknown_tag : flat [] [] 0 (4 ∷ []) (5 ∷ []) ≡ refused 2
unfolding telemetered values_right tested verdict calendar_right holidays_right rising every flows_right history_right entries_in table reading_in
unknown_tag = refl

two_readings : flat (5 ∷ 6 ∷ []) [] 0 [] [] ≡ refused 2
unfolding telemetered values_right tested verdict calendar_right holidays_right rising every flows_right history_right entries_in table reading_in
two_readings = refl

two_own_values : flat [] (5 ∷ 6 ∷ []) 0 [] [] ≡ refused 2
unfolding telemetered values_right tested verdict calendar_right holidays_right rising every flows_right history_right entries_in table reading_in
two_own_values = refl

unknown_toll : flat [] [] 2 [] [] ≡ refused 2
unfolding telemetered values_right tested verdict calendar_right holidays_right rising every flows_right history_right entries_in table reading_in
unknown_toll = refl

no_value : flat [] [] 0 (1 ∷ []) [] ≡ refused 2
unfolding telemetered values_right tested verdict calendar_right holidays_right rising every flows_right history_right entries_in table reading_in
no_value = refl

-- a reading, or else the user's own value that came in time, is the answer
reading_first : flat (5 ∷ []) (6 ∷ []) 0 [] [] ≡ given (record { kwh = 5; looked = 0 })
unfolding telemetered values_right tested verdict calendar_right holidays_right rising every has flows_right history_right entries_in table reading_in
reading_first = refl

own_in_time : flat [] (6 ∷ []) 0 [] [] ≡ given (record { kwh = 6; looked = 0 })
unfolding telemetered values_right tested verdict calendar_right holidays_right rising every has flows_right history_right entries_in table reading_in
own_in_time = refl

-- where none is sent, arrival and length go for nothing
none_sent : telemetered 10 [] (amount_in (5 ∷ [])) (own_in [] 9999 7) (flows_in 0 [] [] 750) 0 [] ≡ given (record { kwh = 5; looked = 0 })
unfolding telemetered values_right tested verdict calendar_right holidays_right rising every flows_right history_right
none_sent = refl
