-- `spread::spread` meets its contract: each way out is one of the outcomes. Assumes nothing.
use mathlib.Core.Path.{sym, ap, ◌∙◌}
use native.Mathlib.Omega.{arith}
use borrow.Author.Tests.{tests}
use borrow.Author.Rules.{rules}
use Rattle.point_day.specs.Calls.{accept}
use Rattle.spread.specs.Spread.{outcome}
use Rattle.spread.proofs.Outcomes.{out_of_range, below_zero, short, accepted}
use Rattle.spread.proofs.spread.Goals as goal

pub returns-then-not-is_in_range : goal.returns-then-not-is_in_range
returns-then-not-is_in_range c =
    let a = c.args in
    out_of_range a.reading a.weights.now a.out.now (search (rules, tests))

pub returns-then-any_negative : goal.returns-then-any_negative
returns-then-any_negative c =
    let a = c.args in
    below_zero a.reading a.weights.now a.out.now (search (rules, tests)) (sym c.any_negative.ensures ∙ c.if-any_negative.true)

pub returns-then-out-weights : goal.returns-then-out-weights
returns-then-out-weights c =
    let a = c.args in
    short a.reading a.weights.now a.out.now (search (rules, tests)) (sym c.any_negative.ensures ∙ c.if-any_negative.false) (omega arith)

pub spread_days-requires : goal.spread_days-requires
spread_days-requires c = (search (rules, tests), omega arith)

pub returns : goal.returns
returns c =
    let a = c.args in
    ap (outcome accept) c.spread_days.ensures
    ∙ accepted a.reading a.weights.now a.out.now (search (rules, tests)) (sym c.any_negative.ensures ∙ c.if-any_negative.false) (omega arith)
