-- Document 01, section "Day file and inventory": the answer to a day file. Assumes nothing.
use Rattle.std.specs.Prelude.{List, [], ◌∷◌, ℕ}
use Rattle.numbers.specs.Sums.{pick}
use Rattle.point_day.specs.Day.{Day, fresh}
use Rattle.point_day.specs.Calls.{Verdict, refuse, accept}
use Rattle.point_day.specs.Struct.{read, laid, called}
use Rattle.point_day.specs.declared.PointDay.{PointDay}
use Rattle.day_book.specs.Run.{Call, move, verdict_of}
use Rattle.calendar.specs.Days.{is_gas_day}
use Rattle.day_file.specs.Form.{gas_day, well_formed}
use Rattle.day_file.specs.File.{file_calls}

-- the number of a refusal, or the gas day and the day allotted
pub data Report : Type 0 where
  refused : ℕ → Report
  allotted : ℕ → Day → Report

-- a refused call ends the file
abbrev pub unless_refused : Verdict → Report → Report
unless_refused (refuse n) r = refused n
unless_refused accept r = r

-- the calls one after the other on a point-day: "the first refusal is the answer"
unfoldable pub in_order : ℕ → List Call → PointDay → Report
in_order day [] d = allotted day (read d)
in_order day (c ∷ cs) d = unless_refused (verdict_of (called (move c) d).answer) (in_order day cs (called (move c) d).day)

-- "Anything else is 13; then a day number out of range is 2; then .." the calls
unfoldable pub report : List ℕ → Report
report f = pick (well_formed f) (pick (is_gas_day (gas_day f)) (in_order (gas_day f) (file_calls f) (laid fresh)) (refused 2)) (refused 13)
