-- `plain_day::writes::add` meets its contract. Assumes nothing.
use mathlib.Core.Path.{ap, ◌∙◌}
use Prim.Native.Nat.{◌+◌}
use native.Mathlib.Omega.{arith}
use lib.IntN.{pos}
use lib.ListN.{length, length-set}
use lib.Seq.{get_or-set_other}
use Rattle.numbers.specs.Sums.{atZ}
use Rattle.numbers.specs.Amounts.{Within}
use Rattle.point_day.specs.Limits.{LIMIT}
use Rattle.state.specs.Places.{more}
use Rattle.plain_day.specs.Layout.{CONSUMPTION_AT, LOSSES_AT}
use Rattle.plain_day.proofs.writes.add.Goals as goal

pub add_at-requires-2 : goal.add_at-requires-2
add_at-requires-2 c =
    let p = c.args.place in
    let f = c.add_at.ensures in
    let w : Within LIMIT (atZ c.add_at.new.cells (LOSSES_AT + p)) = rw (f, get_or-set_other _ (CONSUMPTION_AT + p) (LOSSES_AT + p) _ (pos 0) (λ z. omega arith)) c.requires.within.1 in
    (omega (arith, simp length-set at (ap length f), c.requires.day_len.0, c.requires.day_len.1), c.requires.day_len.3, w)

pub returns : goal.returns
returns c =
    let a = c.args in
    c.add_at-2.ensures ∙ ap (more (LOSSES_AT + a.place) a.added) c.add_at.ensures
