-- `stand_in::rows::RowLists::are_right` meets its contract: the rows passed so far are right. Assumes nothing.
use mathlib.Core.Path.{sym, ◌∙◌}
use native.Mathlib.Omega.{arith}
use borrow.Author.Count.{below_more}
use Rattle.stand_in.specs.Rows.{rows}
use Rattle.stand_in.proofs.rows.Rows.{row_is_right, row_too_long, all_right, one_wrong}
use Rattle.stand_in.proofs.rows.RowLists.are_right.Goals as goal

pub returns-then-self-i-gt-USERS : goal.returns-then-self-i-gt-USERS
returns-then-self-i-gt-USERS c =
    let a = c.args in
    let rs = rows a.self.now.counts.now a.self.now.users.now a.self.now.amounts.now in
    let i = c.loop-i.i in
    sym (one_wrong rs i (omega arith) (row_too_long rs (omega arith) (omega arith) i (omega arith) c.if-self-i-gt-USERS.true))

pub returns-then-not-row_right : goal.returns-then-not-row_right
returns-then-not-row_right c =
    let a = c.args in
    let rs = rows a.self.now.counts.now a.self.now.users.now a.self.now.amounts.now in
    let i = c.loop-i.i in
    let e = sym (row_is_right rs (omega arith) (omega arith) i (omega arith) c.if-self-i-gt-USERS.false) ∙ sym (rw (c.part_of-users.ensures, c.part_of-amounts.ensures) at c.if-not-row_right.ensures) in
    sym (one_wrong rs i (omega arith) e)

pub loop-i-preserved : goal.loop-i-preserved
loop-i-preserved c =
    let a = c.args in
    let rs = rows a.self.now.counts.now a.self.now.users.now a.self.now.amounts.now in
    let i = c.loop-i.i in
    let e = sym (row_is_right rs (omega arith) (omega arith) i (omega arith) c.if-self-i-gt-USERS.false) ∙ sym (rw (c.part_of-users.ensures, c.part_of-amounts.ensures) at c.if-not-row_right.ensures) in
    below_more _ _ c.loop-i.invariant e

pub returns : goal.returns
returns c =
    let a = c.args in
    let rs = rows a.self.now.counts.now a.self.now.users.now a.self.now.amounts.now in
    sym (all_right rs (λ k l. c.loop-i.invariant k (omega arith)))
