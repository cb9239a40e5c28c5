-- Lists of calls on a point-day: each call does what its contract cites. Assumes nothing.
use Rattle.std.specs.Prelude.{Bool, true, false, List, [], ◌∷◌, ◌≡◌}
use Rattle.numbers.specs.Refusals.{Verdict, refuse, accept}
use Rattle.point_day.specs.Limits.{TOLERANCE}
use Rattle.point_day.specs.Day.{Day, fresh}
use Rattle.point_day.specs.Answers.{Answer, refused, done, losses_added, rows_looked_at, within_tolerance, revision_assigned}
use Rattle.point_day.specs.Calls as calls
use Rattle.point_day.specs.Struct.{laid, outcome, called}
use Rattle.point_day.specs.declared.PointDay.{PointDay}
pub use Rattle.day_book.specs.Calls.{Call, join, line, lent_line, measure, allot, stand_in, revise, start_final}
pub use Rattle.day_book.specs.Calls.{Calls, none, ◌then◌}

-- what the contracts of the calls cite
abbrev pub move : Call → Day → calls.Move
move (join n) = calls.join n
move (line n kind c k) = calls.line n kind c k
move (lent_line n kind c k) = calls.line n kind c k
move (measure emission downstream) = calls.measure emission downstream
move allot = calls.allot
move (stand_in rows) = calls.stand_in TOLERANCE rows
move revise = calls.revise TOLERANCE
move start_final = calls.start_final

-- the point-day after a list of calls from fresh: each call gets what the one before returned or left
unfoldable pub run : Calls → PointDay
run none = laid fresh
run (cs then c) = (called (move c) (run cs)).day

-- the answer of a call after a list
abbrev pub answer_after : Calls → Call → Answer
answer_after cs c = (called (move c) (run cs)).answer

-- the answers of a list, the last one first
unfoldable pub answers : Calls → List Answer
answers none = []
answers (cs then c) = answer_after cs c ∷ answers cs

-- the same of results: calls one after the other from fresh, whose answers (the last one first) and last point-day meet the contracts
pub data Chain : Calls → List Answer → PointDay → Type 0 where
  begin : Chain none [] (laid fresh)
  goes_on : {cs : Calls} {ss : List Answer} {d : PointDay} → Chain cs ss d → (c : Call) {a : Answer} {d' : PointDay}
      → outcome a d' ≡ called (move c) d → Chain (cs then c) (a ∷ ss) d'

-- the refusal that an answer tells of, or none
abbrev pub verdict_of : Answer → Verdict
verdict_of (refused n) = refuse n
verdict_of done = accept
verdict_of (losses_added l) = accept
verdict_of (rows_looked_at k) = accept
verdict_of (within_tolerance R) = accept
verdict_of (revision_assigned R) = accept

abbrev pub accepts : Verdict → Bool
accepts (refuse n) = false
accepts accept = true
