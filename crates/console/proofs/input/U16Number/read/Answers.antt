use mathlib.Core.Path.{ap, ◌∙◌}
use mir.Syntax.{w16}
use Rattle.std.specs.Int.{from_le_bytes}
use Rattle.console.proofs.Spelled.{spelled_16}
use Rattle.console.proofs.input.U16Number.read.Goals as goal

pub returns-clause-value : goal.returns-clause-value
returns-clause-value c =
    c.from_le_bytes.ensures ∙ ap (from_le_bytes w16) c.in_ok-chunk.ensures.value ∙ spelled_16 c.args.input.now
