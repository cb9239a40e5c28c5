-- Document 01, section "Examples, P to be proved": one list, each example as what the definitions compute and the document's figures.
-- Assumes nothing.
use mathlib.Core.List.{List, [], ◌∷◌, ◌++◌, map, foldl}
use Rattle.std.specs.Prelude.{Option, None, Some, ◌≡◌, ℕ, ◌+◌, ℤ, pos, neg_ℤ}
use Prim.Native.Char.{code}
use Prim.Native.String.{String, len, char_at}
use Rattle.numbers.specs.Sums.{table, total, totalZ}
use Rattle.numbers.specs.Lists.{flat}
use Rattle.proration.specs.Proration.{prorateZ}
use Rattle.point_day.specs.Day.{User, Day, whole, net}
use Rattle.point_day.specs.Calls.{Answer, within_tolerance, revision_assigned, rows_looked_at}
use Rattle.point_day.specs.Struct.{read, called}
use Rattle.point_day.specs.declared.PointDay.{PointDay}
use Rattle.day_book.specs.Run.{Call, join, line, measure, allot, stand_in, revise, Calls, none, ◌then◌, move, run}
use Rattle.day_file.specs.File.{file_calls}
use Rattle.day_file.specs.Report.{report}
use Rattle.day_file.specs.Text.{text, LINE_FEED}
use Rattle.calendar.specs.Answers.{given}
use Rattle.months.specs.Months.{month_of}
use Rattle.months.specs.WorkingDays.{N_lab}
use Rattle.degree_days.specs.Degrees.{degree_days_call}
use Rattle.zones.specs.Zones.{zone_call}
use Rattle.supply.specs.declared.Toll.{Toll}
use Rattle.supply.specs.declared.Toll.TheVariants.{Toll34, OtherToll}
use Rattle.supply.specs.declared.Flows.{Flows}
use Rattle.history.specs.declared.Reading.{Reading}
use Rattle.history.specs.declared.Reading.TheVariants.{Nothing, Real, Estimated}
use Rattle.history.specs.declared.Entry.{Entry}
use Rattle.telemetered.specs.Telemetered.{telemetered}
use Rattle.type_1.specs.Type1.{other_toll}

-- ---- an example

pub record Example : Type 1 where
  pub name : String
  pub Figures : Type 0
  pub computed : Figures
  pub in_document : Figures

abbrev pub example : {A : Type 0} → String → A → A → Example
example {A} name computed in_document = record { name = name; Figures = A; computed = computed; in_document = in_document }

-- what the document says is what the definitions compute
abbrev pub Holds : Example → Type 0
Holds e = e.in_document ≡ e.computed

abbrev pub AllHold : List Example → Type 0
AllHold [] = Unit {0}
AllHold (e ∷ es) = Holds e × AllHold es

-- ---- file E

-- header and pairs: "The four bytes `REP1`; u32 gas day; u32 emission; u32 downstream; u16 P; P pairs of u32 offset and u32 length";
-- each section: "u16 user, then any number of lines of u8 kind, u32 consumption, u16 coefficient"; all "little-endian"
unfoldable pub file_E : List ℕ
file_E =
    82 ∷ 69 ∷ 80 ∷ 49  -- `REP1`
    ∷ 152 ∷ 0 ∷ 0 ∷ 0  -- "day 152"
    ∷ 232 ∷ 3 ∷ 0 ∷ 0  -- "emission 1000"
    ∷ 100 ∷ 0 ∷ 0 ∷ 0  -- "downstream 100"
    ∷ 3 ∷ 0  -- three pairs
    ∷ 42 ∷ 0 ∷ 0 ∷ 0 ∷ 16 ∷ 0 ∷ 0 ∷ 0
    ∷ 58 ∷ 0 ∷ 0 ∷ 0 ∷ 9 ∷ 0 ∷ 0 ∷ 0
    ∷ 67 ∷ 0 ∷ 0 ∷ 0 ∷ 9 ∷ 0 ∷ 0 ∷ 0
    ∷ 7 ∷ 0  -- "user 7"
    ∷ 1 ∷ 44 ∷ 1 ∷ 0 ∷ 0 ∷ 232 ∷ 3  -- "kind 1, 300, 1000"
    ∷ 3 ∷ 200 ∷ 0 ∷ 0 ∷ 0 ∷ 0 ∷ 0  -- "kind 3, 200, 0"
    ∷ 9 ∷ 0  -- "user 9"
    ∷ 5 ∷ 150 ∷ 0 ∷ 0 ∷ 0 ∷ 208 ∷ 7  -- "kind 5, 150, 2000"
    ∷ 12 ∷ 0  -- "user 12"
    ∷ 2 ∷ 50 ∷ 0 ∷ 0 ∷ 0 ∷ 0 ∷ 0  -- "kind 2, 50, 0"
    ∷ []

-- the calls that it stands for: measure, joins and lines, allot
unfoldable pub E_allotted : Calls
E_allotted = foldl ◌then◌ none (file_calls file_E)

-- the bytes of lines of text, each with its line feed: an ASCII character's code is its byte
unfoldable pub printed : List String → List ℕ
printed lines = flat (map (λ (s : String). table (λ i. code (char_at s i)) (len s) ++ (LINE_FEED ∷ [])) lines)

-- ---- a point-day's figures

-- a user's number, consumption, losses, balance and whole amount
abbrev pub user_row : User → List ℤ
user_row u = pos u.number ∷ pos (total u.consumption) ∷ pos (total u.losses) ∷ totalZ u.balance ∷ whole u ∷ []

-- net, consumption, losses and balance of the point; then the users
abbrev pub rows : Day → List (List ℤ)
rows d =
    (net d
    ∷ pos (total (map (λ (u : User). total u.consumption) d.users))
    ∷ pos (total (map (λ (u : User). total u.losses) d.users))
    ∷ totalZ (map (λ (u : User). totalZ u.balance) d.users)
    ∷ [])
    ∷ map user_row d.users

-- a call's answer, the figures after it, and the users' revisions
pub record Last : Type 0 where
  pub answer : Answer
  pub figures : List (List ℤ)
  pub revisions : List ℤ

unfoldable pub last : Call → PointDay → Last
last c d = record {
  answer = (called (move c) d).answer;
  figures = rows (read (called (move c) d).day);
  revisions = map (λ (u : User). u.revision) (read (called (move c) d).day).users;
}

-- ---- supply points

-- `telemetered` takes the gas day, the holidays, the reading, the user's own value, the flows, how many entries, and the entries;
-- `other_toll` the gas day, the holidays, the same month last year, C_c, the last month, Q_d, f_c, C_f

abbrev pub entry : Reading → Entry
entry r = record { reading = r }

-- Q_a, no Q_d, f_c 750
abbrev pub flows : Toll → Option ℕ → Flows
flows toll Q_a = record { toll = toll; yearly = Q_a; daily = None; factor = 750 }

-- ---- the list

unfoldable pub examples : List Example
examples =
    -- "P1: E's figures": what `dayreport` prints of file E, from its bytes
    example "P1"
    (text (report file_E))
    (printed
    ("point 152 900 700 6 194"
    ∷ "user 7 500 3 96 599"
    ∷ "user 9 150 3 74 227"
    ∷ "user 12 50 0 24 74"
    ∷ []))
    -- "P2: −10 over 1, 1, 1 is −4, −3, −3"
    ∷ example "P2"
    (prorateZ (neg_ℤ (pos 10)) (1 ∷ 1 ∷ 1 ∷ []) (1 ∷ 2 ∷ 3 ∷ []))
    (neg_ℤ (pos 4) ∷ neg_ℤ (pos 3) ∷ neg_ℤ (pos 3) ∷ [])
    -- "P3: net 100, users read at 60 and 39, coefficient 0: balance 1, 0"
    ∷ example "P3"
    (rows
    (read (run (none then measure 100 0 then join 1 then line 1 1 60 0 then join 2 then line 2 1 39 0 then allot))))
    ((pos 100 ∷ pos 99 ∷ pos 0 ∷ pos 1 ∷ [])
    ∷ (pos 1 ∷ pos 60 ∷ pos 0 ∷ pos 1 ∷ pos 61 ∷ [])
    ∷ (pos 2 ∷ pos 39 ∷ pos 0 ∷ pos 0 ∷ pos 39 ∷ [])
    ∷ [])
    -- "P4: (tmin, tmax) (150, 200) 0; (140, 300) 10; (100, 200) 50; (50, 150) 200; (0, 100) 400"
    ∷ example "P4"
    (degree_days_call (pos 150) (pos 200)
    ∷ degree_days_call (pos 140) (pos 300)
    ∷ degree_days_call (pos 100) (pos 200)
    ∷ degree_days_call (pos 50) (pos 150)
    ∷ degree_days_call (pos 0) (pos 100)
    ∷ [])
    (given (pos 0) ∷ given (pos 10) ∷ given (pos 50) ∷ given (pos 200) ∷ given (pos 400) ∷ [])
    -- "P5: gas day a Friday, no holidays; Thursday 100 real, Wednesday nothing, Tuesday 999 estimated, Monday 101 real,
    -- Sunday and Saturday 7 real, Friday 101 real: 101, looked at 7". Gas day 7 is a Friday
    ∷ example "P5"
    (telemetered 7 [] None None (flows OtherToll None) 7
    (entry (Real 100)
    ∷ entry Nothing
    ∷ entry (Estimated 999)
    ∷ entry (Real 101)
    ∷ entry (Real 7)
    ∷ entry (Real 7)
    ∷ entry (Real 101)
    ∷ []))
    (given (record { kwh = 101; looked = 7 }))
    -- "P6: telemetered, new, Q_a 315, toll 3.4: 2"
    ∷ example "P6"
    (telemetered 7 [] None None (flows Toll34 (Some 315)) 0 [])
    (given (record { kwh = 2; looked = 0 }))
    -- "P7: other toll, June 2016, no holidays, 10,000 last year, C_c 10,000, C_f 850: N_lab 22, working day 386, others 188".
    -- Gas day 152 is Wednesday 1 June 2016; a row is a week, from Monday to Sunday
    ∷ example "P7, N_lab" (N_lab [] (month_of 152)) 22
    ∷ example "P7, each day"
    (table (λ i. other_toll (152 + i) [] (Some 10000) 10000 None None 750 850) 30)
    (map given
    (386 ∷ 386 ∷ 386 ∷ 188 ∷ 188
    ∷ 386 ∷ 386 ∷ 386 ∷ 386 ∷ 386 ∷ 188 ∷ 188
    ∷ 386 ∷ 386 ∷ 386 ∷ 386 ∷ 386 ∷ 188 ∷ 188
    ∷ 386 ∷ 386 ∷ 386 ∷ 386 ∷ 386 ∷ 188 ∷ 188
    ∷ 386 ∷ 386 ∷ 386 ∷ 386
    ∷ []))
    -- "P8: E allotted, then measured at emission 1100, downstream 100: R 100, nothing"
    ∷ example "P8"
    (last revise (run (E_allotted then measure 1100 100)))
    (record {
      answer = within_tolerance (pos 100);
      figures =
          (pos 1000 ∷ pos 700 ∷ pos 6 ∷ pos 194 ∷ [])
          ∷ (pos 7 ∷ pos 500 ∷ pos 3 ∷ pos 96 ∷ pos 599 ∷ [])
          ∷ (pos 9 ∷ pos 150 ∷ pos 3 ∷ pos 74 ∷ pos 227 ∷ [])
          ∷ (pos 12 ∷ pos 50 ∷ pos 0 ∷ pos 24 ∷ pos 74 ∷ [])
          ∷ [];
      revisions = pos 0 ∷ pos 0 ∷ pos 0 ∷ [];
    })
    -- "at 1101 instead: 67, 26, 8"
    ∷ example "P8, at 1101"
    (last revise (run (E_allotted then measure 1101 100)))
    (record {
      answer = revision_assigned (pos 101);
      figures =
          (pos 1001 ∷ pos 700 ∷ pos 6 ∷ pos 194 ∷ [])
          ∷ (pos 7 ∷ pos 500 ∷ pos 3 ∷ pos 96 ∷ pos 666 ∷ [])
          ∷ (pos 9 ∷ pos 150 ∷ pos 3 ∷ pos 74 ∷ pos 253 ∷ [])
          ∷ (pos 12 ∷ pos 50 ∷ pos 0 ∷ pos 24 ∷ pos 82 ∷ [])
          ∷ [];
      revisions = pos 67 ∷ pos 26 ∷ pos 8 ∷ [];
    })
    -- "P9: two empty rows, then users 5 and 6 at 0, net 201: 101, 100, looked at 3"
    ∷ example "P9"
    (last
    (stand_in
    ([]
    ∷ []
    ∷ (record { user = 5; amount = pos 0 } ∷ record { user = 6; amount = pos 0 } ∷ [])
    ∷ [] ∷ [] ∷ [] ∷ [] ∷ [] ∷ [] ∷ [] ∷ [] ∷ [] ∷ [] ∷ [] ∷ [] ∷ []))
    (run (none then measure 201 0)))
    (record {
      answer = rows_looked_at 3;
      figures =
          (pos 201 ∷ pos 0 ∷ pos 0 ∷ pos 0 ∷ [])
          ∷ (pos 5 ∷ pos 0 ∷ pos 0 ∷ pos 0 ∷ pos 101 ∷ [])
          ∷ (pos 6 ∷ pos 0 ∷ pos 0 ∷ pos 0 ∷ pos 100 ∷ [])
          ∷ [];
      revisions = pos 101 ∷ pos 100 ∷ [];
    })
    -- "P10: zones of 169, 170, 240, 380, 381: 1, 2, 3, 3, 4"
    ∷ example "P10"
    (map zone_call (169 ∷ 170 ∷ 240 ∷ 380 ∷ 381 ∷ []))
    (map given (1 ∷ 2 ∷ 3 ∷ 3 ∷ 4 ∷ []))
    ∷ []
