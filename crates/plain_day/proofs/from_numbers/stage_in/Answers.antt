-- `plain_day::from_numbers::stage_in` meets its contract. Assumes nothing.
use mathlib.Core.Path.{ap, ◌∙◌}
use Rattle.plain_day.specs.Layout.{stage_of}
use Rattle.plain_day.proofs.from_numbers.stage_in.Goals as goal

pub returns : goal.returns
returns c = c.stage_of.ensures ∙ ap (λ n. stage_of n) c.size_at.ensures
