-- What the functions return is what demand 3 is about. Assumes nothing.
use mathlib.Core.Path.{subst⁻¹}
use mathlib.Core.List.{List, []}
use Rattle.point_day.specs.Answers.{Answer}
use Rattle.point_day.specs.Struct.{rows_of}
use Rattle.point_day.specs.declared.PointDay.{PointDay}
use Rattle.day_book.specs.Calls as call
use Rattle.day_book.specs.Calls.{Calls, none}
use Rattle.day_book.specs.Run.{Chain, begin, goes_on}
use Rattle.day_book.specs.Claim.{Returned}
use Rattle.day_book.proofs.Theorem.{demand_3_of_results}
use Rattle.demand_3.specs.Results.{Results, fresh_day, join, line, line_lent, measure, allot, stand_in, revise, start_final}

chain : {cs : Calls} {ss : List Answer} {d : PointDay} → Results cs ss d → Chain cs ss d
chain (fresh_day e) = subst⁻¹ (Chain none []) e begin
chain (join h user r e) = goes_on (chain h) (call.join user) e
chain (line h e r p) = goes_on (chain h) (call.line e.user e.kind e.consumption e.coefficient) p
chain (line_lent h e r p) = goes_on (chain h) (call.lent_line e.user e.kind e.consumption e.coefficient) p
chain (measure h emission downstream r e) = goes_on (chain h) (call.measure emission downstream) e
chain (allot h r e) = goes_on (chain h) call.allot e
chain (stand_in h rows r e) = goes_on (chain h) (call.stand_in (rows_of rows)) e
chain (revise h r e) = goes_on (chain h) call.revise e
chain (start_final h r e) = goes_on (chain h) call.start_final e

pub demand_3_of_functions : {cs : Calls} {ss : List Answer} {d : PointDay} → Results cs ss d → Returned cs ss d
demand_3_of_functions h = demand_3_of_results (chain h)
