-- Calls of the library's functions one after the other, from the fresh point-day on. Each step is what the function's own contract says of
-- its result: `Learnt` of a function is its `ensures`, as the toolchain reads it for a caller. Assumes nothing.
use Rattle.std.specs.Prelude.{Result, ◌≡◌, refl, List, [], ◌∷◌, ℕ}
use contract.Lifetimes.{Lfts}
use denote.Triple.Clauses.{AtExit}
use contract.Monad.{fact}
use borrow.Fn.World.{World, ArgsD}
use Rattle.numbers.specs.declared.Refusal.{Refusal}
use Rattle.point_day.specs.Answers.{Answer, answer_of}
use Rattle.point_day.specs.Calls as calls
use Rattle.point_day.specs.Struct.{outcome, called, rows_of}
use Rattle.point_day.specs.declared.PointDay.{PointDay}
use Rattle.point_day.specs.declared.StandInRows.{StandInRows}
use Rattle.point_day.specs.declared.Accepted.{Accepted}
use Rattle.point_day.specs.declared.Outcome.{Outcome}
use Rattle.point_day.proofs.fresh_day.Reads as fresh
use Rattle.join.proofs.join.Reads as joined
use Rattle.line.specs.declared.cells.LineEntry.{LineEntry}
use Rattle.line.proofs.line.Reads as lined
use Rattle.line.specs.contracts.line_lent as lent
use Rattle.measure.proofs.measure.Reads as measured
use Rattle.allot.proofs.allot.Reads as allotted
use Rattle.stand_in.proofs.stand_in.Reads as stood_in
use Rattle.revise.proofs.revise.Reads as revised
use Rattle.start_final.proofs.start_final.Reads as restarted
use Rattle.day_book.specs.Calls as call
use Rattle.day_book.specs.Calls.{Calls, none, ◌then◌}

-- ---- what each contract says: of the arguments, the result, and the arguments at exit, which by value are the same

abbrev pub Fresh : PointDay → Type 0
Fresh d = fresh.Learnt tt tt d tt

abbrev pub Joined : PointDay → ℕ → Outcome → Type 0
Joined d user r = joined.Learnt tt (d, (user, tt)) r (d, (user, tt))

abbrev pub Lined : PointDay → LineEntry → Outcome → Type 0
Lined d e r = lined.Learnt tt (d, (e, tt)) r (d, (e, tt))

abbrev pub Measured : PointDay → ℕ → ℕ → Outcome → Type 0
Measured d emission downstream r = measured.Learnt tt (d, (emission, (downstream, tt))) r (d, (emission, (downstream, tt)))

abbrev pub Allotted : PointDay → Outcome → Type 0
Allotted d r = allotted.Learnt tt (d, tt) r (d, tt)

abbrev pub StoodIn : PointDay → StandInRows → Outcome → Type 0
StoodIn d rows r = stood_in.Learnt tt (d, (rows, tt)) r (d, (rows, tt))

abbrev pub Revised : PointDay → Outcome → Type 0
Revised d r = revised.Learnt tt (d, tt) r (d, tt)

abbrev pub Restarted : PointDay → Outcome → Type 0
Restarted d r = restarted.Learnt tt (d, tt) r (d, tt)

-- `line_lent` takes a reference to a struct: of the lent point-day before and after,
abbrev pub Lent : PointDay → LineEntry → Result Accepted Refusal → PointDay → Type 0
Lent before e r after = outcome (answer_of r) after ≡ called (calls.line e.user e.kind e.consumption e.coefficient) before

-- and that is its `ensures` in every model of the program logic, with the arguments a and, at exit, s
lent_ensures : (w : World) (κs : Lfts 1) (a : ArgsD lent.signature κs) (r : Result Accepted Refusal) (s : AtExit lent.ended κs)
    → (lent.clauses w.𝓛 w.𝓜.mem w.𝓡.returns κs a).ensures tt r s
    ≡ fact w.𝓤 (Lent a.0.now a.1.0 r s.0.now)
lent_ensures w κs a r s = refl

-- ---- one call after the other

-- the calls, their answers (the last one first), and the point-day that the last one returned or left: each function gets the point-day
-- of the one before, and its result is as its contract says
pub data Results : Calls → List Answer → PointDay → Type 0 where
  fresh_day : {d : PointDay} → Fresh d → Results none [] d
  join : {cs : Calls} {ss : List Answer} {d : PointDay} → Results cs ss d → (user : ℕ) (r : Outcome) → Joined d user r
      → Results (cs then call.join user) (answer_of r.answer ∷ ss) r.day
  line : {cs : Calls} {ss : List Answer} {d : PointDay} → Results cs ss d → (e : LineEntry) (r : Outcome) → Lined d e r
      → Results (cs then call.line e.user e.kind e.consumption e.coefficient) (answer_of r.answer ∷ ss) r.day
  line_lent : {cs : Calls} {ss : List Answer} {d d' : PointDay} → Results cs ss d → (e : LineEntry) (r : Result Accepted Refusal)
      → Lent d e r d' → Results (cs then call.lent_line e.user e.kind e.consumption e.coefficient) (answer_of r ∷ ss) d'
  measure : {cs : Calls} {ss : List Answer} {d : PointDay} → Results cs ss d → (emission downstream : ℕ) (r : Outcome)
      → Measured d emission downstream r → Results (cs then call.measure emission downstream) (answer_of r.answer ∷ ss) r.day
  allot : {cs : Calls} {ss : List Answer} {d : PointDay} → Results cs ss d → (r : Outcome) → Allotted d r
      → Results (cs then call.allot) (answer_of r.answer ∷ ss) r.day
  stand_in : {cs : Calls} {ss : List Answer} {d : PointDay} → Results cs ss d → (rows : StandInRows) (r : Outcome) → StoodIn d rows r
      → Results (cs then call.stand_in (rows_of rows)) (answer_of r.answer ∷ ss) r.day
  revise : {cs : Calls} {ss : List Answer} {d : PointDay} → Results cs ss d → (r : Outcome) → Revised d r
      → Results (cs then call.revise) (answer_of r.answer ∷ ss) r.day
  start_final : {cs : Calls} {ss : List Answer} {d : PointDay} → Results cs ss d → (r : Outcome) → Restarted d r
      → Results (cs then call.start_final) (answer_of r.answer ∷ ss) r.day
