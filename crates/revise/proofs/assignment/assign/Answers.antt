-- `revise::assignment::assign` meets its contract. Assumes nothing.
use mathlib.Core.Path.{refl, sym, ◌∙◌}
use lib.Dec.{lit≤}
use mir.Facts.{to_z-of_z}
use Rattle.numbers.proofs.Amounts.{widen}
use Rattle.revise.proofs.assignment.Adding.{shares_small, large_is, revisions_are}
use Rattle.revise.proofs.assignment.assign.Goals as goal

pub add_columns-requires-clause-by_index : goal.add_columns-requires-clause-by_index
add_columns-requires-clause-by_index c =
    let h = c.requires in
    let q = rw (to_z-of_z c.ranges.amount) at c.share_out.ensures in
    (λ i. widen (h.wholes i) (lit≤ tt), λ i. widen (shares_small h c.repeat-shares.ensures q i) (lit≤ tt))

pub returns-then-wholes_too_large : goal.returns-then-wholes_too_large
returns-then-wholes_too_large c =
    let q = rw (to_z-of_z c.ranges.amount) at c.share_out.ensures in
    (sym (large_is c.requires c.repeat-shares.ensures q c.repeat-wholes.ensures c.add_columns.ensures) ∙ sym c.wholes_too_large.ensures ∙ c.if-wholes_too_large.true, refl)

pub add_columns-requires-2-clause-by_index : goal.add_columns-requires-2-clause-by_index
add_columns-requires-2-clause-by_index c =
    let h = c.requires in
    let q = rw (to_z-of_z c.ranges.amount) at c.share_out.ensures in
    (λ i. widen (h.revisions i) (lit≤ tt), λ i. widen (shares_small h c.repeat-shares.ensures q i) (lit≤ tt))

pub returns : goal.returns
returns c =
    let h = c.requires in
    let k = c.repeat-shares.ensures in
    let q = rw (to_z-of_z c.ranges.amount) at c.share_out.ensures in (
      sym (large_is h k q c.repeat-wholes.ensures c.add_columns.ensures) ∙ sym c.wholes_too_large.ensures ∙ c.if-wholes_too_large.false,
      revisions_are h k q c.args.column.now h.column_long c.add_columns-2.ensures,
    )
