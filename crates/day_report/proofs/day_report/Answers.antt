-- `day_report::day_report` meets its contract. Assumes nothing.
use Rattle.std.proofs.Common.{arith}
use Rattle.numbers.specs.Refusals.{number_of}
use Rattle.day_report.proofs.Running.{no_room, by_refusal, by_text}
use Rattle.day_report.proofs.day_report.Goals as goal

pub returns-then-out-lt-REPORT_ROOM : goal.returns-then-out-lt-REPORT_ROOM
returns-then-out-lt-REPORT_ROOM c =
    let both = no_room c.args.file.now c.args.out.now (omega arith) in
    record { value = both.0; out_after = both.1.0; prefix_len = both.1.1 }

pub returns-in-Err : goal.returns-in-Err
returns-in-Err c =
    let e = c.in-Err.ensures in
    let both = by_refusal c.args.file.now c.args.out.now (omega (arith, c.if-out-lt-REPORT_ROOM.false)) e.out_after (number_of c.in-Err.refusal) e.result_value
    (rw c.from.ensures at c.put_refused.ensures.value) (rw c.from.ensures at c.put_refused.ensures.out_after) in
    record { value = both.0; out_after = both.1.0; prefix_len = both.1.1 }

pub returns-in-Ok : goal.returns-in-Ok
returns-in-Ok c =
    let e = c.in-Ok.ensures in
    let both = by_text c.args.file.now c.args.out.now (omega (arith, c.if-out-lt-REPORT_ROOM.false)) e.out_after e.result_value in
    record { value = both.0; out_after = both.1.0; prefix_len = both.1.1 }
