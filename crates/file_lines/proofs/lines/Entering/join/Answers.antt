-- `file_lines::lines::Entering::join` meets its contract: a user that is found has joined. Assumes nothing.
use Rattle.std.proofs.Common.{◌≡◌, true, take, sym, ◌∙◌, ne_eqb}
use Rattle.numbers.specs.Lists.{has}
use Rattle.state.proofs.Numbers.{slot_found}
use Rattle.file_lines.proofs.lines.Entering.join.Goals as goal

pub returns-then-is_some-clause-value : goal.returns-then-is_some-clause-value
returns-then-is_some-clause-value c =
    let a = c.args in
    let h : has a.user (take a.slot a.self.now.users) ≡ true = sym (slot_found a.user _ _ c.slot_of.ensures) ∙ sym c.is_some.ensures ∙ c.if-is_some.true in
    rw (ne_eqb a.user 0 c.if-user-eq0.false, h)
