-- `split::leftover::serve_cut` meets its contract: a certified cut serves the ranks below `left`. Assumes nothing.
use Rattle.std.proofs.Common.{◌++◌, length, drop, sym, ap, ◌∙◌}
use Rattle.numbers.specs.Sums.{at}
use Rattle.split.proofs.leftover.Cut.{by_cut}
use Rattle.split.proofs.leftover.serve_cut.Goals as goal

pub returns-then-count_ahead-left : goal.returns-then-count_ahead-left
returns-then-count_ahead-left c =
    let p = c.args.parties.now in
    let n = length p.rems.now in
    c.serve_ahead.ensures
    ∙ ap (λ t. t ++ drop n c.args.shares.now)
    (by_cut (at p.rems.now) (at p.keys.now) n c.args.x 0 (sym c.count_ahead.ensures ∙ c.if-count_ahead-left.true) (at c.args.shares.now))
