-- `plain_day::is_readable` meets its contract. Assumes nothing.
use lib.ListN.{length}
use borrow.Author.Tests.{eq-eqb, ne_eqb}
use Rattle.plain_day.specs.Layout.{LENGTH, is_readable}
use Rattle.plain_day.proofs.is_readable.Goals as goal

pub returns-then-xs-ne-LENGTH : goal.returns-then-xs-ne-LENGTH
unfolding is_readable
returns-then-xs-ne-LENGTH c = rw (ne_eqb (length c.args.xs.now) LENGTH c.if-xs-ne-LENGTH.true)

pub returns-then-head_readable : goal.returns-then-head_readable
unfolding is_readable
returns-then-head_readable c = rw (eq-eqb (length c.args.xs.now) LENGTH c.if-xs-ne-LENGTH.false, ← c.if-head_readable.ensures) c.all_up_to.ensures

pub returns-else-head_readable : goal.returns-else-head_readable
unfolding is_readable
returns-else-head_readable c = rw (eq-eqb (length c.args.xs.now) LENGTH c.if-xs-ne-LENGTH.false, ← c.if-head_readable.ensures) c.if-head_readable.false
