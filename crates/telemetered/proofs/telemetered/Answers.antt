-- `telemetered::telemetered` meets its contract: entries past the count are not looked at. Assumes nothing.
use mathlib.Core.Path.{sym, ◌∙◌}
use native.Mathlib.Omega.{arith}
use borrow.Author.Rules.{rules}
use Rattle.telemetered.proofs.Telemetering.{history_short, length_counted, right_counted, counted}
use Rattle.telemetered.proofs.telemetered.Goals as goal

pub slice_bounds-history-end : goal.slice_bounds-history-end
slice_bounds-history-end c = omega (arith, history_short _ _ _ (sym c.if-not-is_counted.ensures))

pub slice_bounds-of_values-end : goal.slice_bounds-of_values-end
slice_bounds-of_values-end c = sym (length_counted _ _ _ (sym c.if-not-is_counted.ensures) (search rules) _ (omega arith))

pub of_values-requires-clause-entries : goal.of_values-requires-clause-entries
of_values-requires-clause-entries c =
    rw (c.in_ok-calendar.ensures.given.0) (right_counted _ _ _ (sym c.if-not-is_counted.ensures) (search rules) _ (omega arith))

pub returns : goal.returns
returns c =
    let s = c.args in
    let e = c.in_ok-calendar.ensures.given in
    let n = length_counted _ _ _ (sym c.if-not-is_counted.ensures) (search rules) s.count (omega arith) in
    (rw (e.0, e.1) at c.of_values.ensures) ∙ counted s.day s.holidays.now s.reading s.own s.flows s.count s.history n
