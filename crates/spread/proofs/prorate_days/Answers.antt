-- `spread::prorate_days` meets its contract. Assumes nothing.
use mathlib.Core.List.{map}
use mathlib.Core.Path.{◌∙◌}
use native.Mathlib.Omega.{arith}
use lib.IntN.{nat_abs}
use lib.ListN.{length}
use Rattle.columns.proofs.Shared.{fitted}
use Rattle.spread.proofs.Periods.{weight_summable, reading_fits, total_asks, split_asks, parts_are}
use Rattle.spread.proofs.Ranges.{in_range_facts}
use Rattle.spread.proofs.prorate_days.Goals as goal

pub sizes_of-requires : goal.sizes_of-requires
sizes_of-requires c =
    (omega (arith, c.requires.1), weight_summable c.args.weights.now (in_range_facts c.args.reading c.args.weights.now c.requires.0).weights)

pub of-requires : goal.of-requires
of-requires c =
    let w = c.args.weights.now in
    let sizes = fitted (length w) (map nat_abs w) c.args.sizes.now c.sizes_of.ensures c.requires.1 in
    total_asks c.args.reading w c.requires.0 sizes

pub overflow_cast-reading : goal.overflow_cast-reading
overflow_cast-reading c =
    reading_fits c.args.reading c.args.weights.now c.requires.0

pub prorate_signed-requires : goal.prorate_signed-requires
prorate_signed-requires c =
    let a = c.args in
    let w = a.weights.now in
    let sizes = c.of.ensures ∙ fitted (length w) (map nat_abs w) a.sizes.now c.sizes_of.ensures c.requires.1 in
    let both = split_asks a.reading w c.requires.0 sizes (length a.keys.now) c.requires.2 c.write_days.ensures a.out.now c.requires.3 in
    record { within = both.0; ws_in_bounds = both.1 }

pub returns : goal.returns
returns c =
    let a = c.args in
    let w = a.weights.now in
    let sizes = c.of.ensures ∙ fitted (length w) (map nat_abs w) a.sizes.now c.sizes_of.ensures c.requires.1 in
    parts_are a.reading w c.requires.0 sizes (length a.keys.now) c.requires.2 c.write_days.ensures a.out.now
    c.prorate_signed.ensures
