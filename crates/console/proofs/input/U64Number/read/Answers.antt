use mathlib.Core.Path.{ap, ◌∙◌}
use mir.Syntax.{w64}
use Rattle.std.specs.Int.{from_le_bytes}
use Rattle.console.proofs.Spelled.{spelled_64}
use Rattle.console.proofs.input.U64Number.read.Goals as goal

pub returns-clause-value : goal.returns-clause-value
returns-clause-value c =
    c.from_le_bytes.ensures ∙ ap (from_le_bytes w64) c.in_ok-chunk.ensures.value ∙ spelled_64 c.args.input.now
