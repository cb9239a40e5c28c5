use mathlib.Core.Path.{ap, ◌∙◌}
use mir.Syntax.{w32}
use Rattle.std.specs.Int.{from_le_bytes}
use Rattle.console.proofs.Spelled.{spelled_32}
use Rattle.console.proofs.input.U32Number.read.Goals as goal

pub returns-clause-value : goal.returns-clause-value
returns-clause-value c =
    c.from_le_bytes.ensures ∙ ap (from_le_bytes w32) c.in_ok-chunk.ensures.value ∙ spelled_32 c.args.input.now
