-- `history::is_reading` meets its contract. A reading is in its range just where its value is. Assumes nothing.
use mathlib.Core.Path.{◌≡◌, refl, ap, ◌∙◌}
use Rattle.supply.specs.Amounts.{in_limit}
use Rattle.history.specs.History.{reading_right, value_of}
use Rattle.history.specs.declared.Reading.{Reading}
use Rattle.history.specs.declared.Reading.TheVariants.{Nothing, Real, Estimated, Own}
use Rattle.history.proofs.is_reading.Goals as goal

by_value : (r : Reading) → in_limit (value_of r) ≡ reading_right r
by_value Nothing = refl
by_value (Real v) = refl
by_value (Estimated v) = refl
by_value (Own v) = refl

pub returns : goal.returns
returns c = ap in_limit c.value_of.ensures ∙ by_value c.args.reading
