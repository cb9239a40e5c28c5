-- `stand_in::taken_test` meets its contract, outcome by outcome, on any point-day of which this is the test. Assumes nothing.
use mathlib.Core.Path.{refl, sym, ◌∙◌}
use native.Mathlib.Omega.{arith}
use borrow.Author.Tests.{le-leb, lt-leb}
use Rattle.numbers.proofs.Refusals.{refusal_passed, refused_not_0}
use Rattle.stand_in.proofs.rows.Rows.{rows_lengths, rows_other}
use Rattle.stand_in.proofs.opening.Standing.{stand_in_1, stand_in_2, stand_in_7, stand_in_9}
use Rattle.stand_in.proofs.Lists.{open_is, measured_is, net_is, right_in, no_row, usable, row_refused, row_stands}
use Rattle.stand_in.proofs.taken_test.Goals as goal

pub returns-then-not-is_open : goal.returns-then-not-is_open
returns-then-not-is_open c d k = stand_in_1 d k.sized k.is_taken _ _ (open_is k ∙ sym c.if-not-is_open.ensures)

pub returns-then-not-rows_readable : goal.returns-then-not-rows_readable
returns-then-not-rows_readable c d k =
    stand_in_2 d k.sized k.is_taken _ _ (open_is k ∙ sym c.if-not-is_open.ensures) (rows_other _ _ _ (sym c.if-not-rows_readable.ensures))

pub invariant_of-rows : goal.invariant_of-rows
invariant_of-rows c =
    let l = rows_lengths _ _ _ (sym c.if-not-rows_readable.ensures) in
    record { counts_len = l.0; users_len = l.1; amounts_len = l.2 }

pub returns-then-not-are_right : goal.returns-then-not-are_right
returns-then-not-are_right c d k =
    stand_in_2 d k.sized k.is_taken _ _ (open_is k ∙ sym c.if-not-is_open.ensures) (right_in _ _ _ (sym c.if-not-rows_readable.ensures) c.if-not-are_right.ensures)

pub returns-then-not-is_measured : goal.returns-then-not-is_measured
returns-then-not-is_measured c d k =
    stand_in_7 d k.sized k.is_taken _ _ (open_is k ∙ sym c.if-not-is_open.ensures) (right_in _ _ _ (sym c.if-not-rows_readable.ensures) c.if-not-are_right.ensures) (measured_is k ∙ sym c.if-not-is_measured.ensures)

pub returns-then-net-tolerance : goal.returns-then-net-tolerance
returns-then-net-tolerance c d k =
    let a = c.args in
    let o = open_is k ∙ sym c.if-not-is_open.ensures in
    let m = measured_is k ∙ sym c.if-not-is_measured.ensures in
    let n = c.net-net in
    stand_in_9 d k.sized k.is_taken _ a.tolerance o (right_in _ _ _ (sym c.if-not-rows_readable.ensures) c.if-not-are_right.ensures) m n.result (n.ensures.0 ∙ net_is k) (le-leb n.result a.tolerance (omega (arith, c.if-net-tolerance.true)))

pub returns-in_default : goal.returns-in_default
returns-in_default c d k =
    let a = c.args in
    let o = open_is k ∙ sym c.if-not-is_open.ensures in
    let m = measured_is k ∙ sym c.if-not-is_measured.ensures in
    let n = c.net-net in
    let b = lt-leb n.result a.tolerance c.if-net-tolerance.false in
    no_row a.counts.now a.joining.now a.amounts.now (right_in _ _ _ (sym c.if-not-rows_readable.ensures) c.if-not-are_right.ensures) a.tolerance d k.sized k.is_taken o m n.result (n.ensures.0 ∙ net_is k) b _ c.in_default.ensures refl

pub row_test-requires : goal.row_test-requires
row_test-requires c =
    let a = c.args in
    let r = right_in _ _ _ (sym c.if-not-rows_readable.ensures) c.if-not-are_right.ensures in
    let p = c.in-Some.ensures in
    record { zeros = c.requires.1; usable = usable a.counts.now a.joining.now a.amounts.now r c.net-net.result c.in-Some.row c.net-net.ensures.1 p.0 p.1 }

pub returns-in_err-row_test : goal.returns-in_err-row_test
returns-in_err-row_test c d k =
    let a = c.args in
    let r = right_in _ _ _ (sym c.if-not-rows_readable.ensures) c.if-not-are_right.ensures in
    let o = open_is k ∙ sym c.if-not-is_open.ensures in
    let m = measured_is k ∙ sym c.if-not-is_measured.ensures in
    let n = c.net-net in
    let b = lt-leb n.result a.tolerance c.if-net-tolerance.false in
    let p = c.in-Some.ensures in
    let u = usable a.counts.now a.joining.now a.amounts.now r n.result c.in-Some.row n.ensures.1 p.0 p.1 in
    rw (refusal_passed _ _ c.from_residual.ensures.1)
    (row_refused a.counts.now a.joining.now a.amounts.now r a.tolerance d k.sized k.is_taken o m n.result (n.ensures.0 ∙ net_is k) b c.in-Some.row u _ _ c.in_err-row_test.ensures (refused_not_0 _))

pub returns : goal.returns
returns c d k =
    let a = c.args in
    let r = right_in _ _ _ (sym c.if-not-rows_readable.ensures) c.if-not-are_right.ensures in
    let o = open_is k ∙ sym c.if-not-is_open.ensures in
    let m = measured_is k ∙ sym c.if-not-is_measured.ensures in
    let n = c.net-net in
    let b = lt-leb n.result a.tolerance c.if-net-tolerance.false in
    let p = c.in-Some.ensures in
    let u = usable a.counts.now a.joining.now a.amounts.now r n.result c.in-Some.row n.ensures.1 p.0 p.1 in
    row_stands a.counts.now a.joining.now a.amounts.now r a.tolerance d k.sized k.is_taken o m n.result (n.ensures.0 ∙ net_is k) b c.in-Some.row u _ _ c.in_ok-row_test.ensures refl
