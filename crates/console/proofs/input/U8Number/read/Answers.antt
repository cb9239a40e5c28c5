use mathlib.Core.Path.{ap, ◌∙◌}
use mir.Syntax.{w8}
use Rattle.std.specs.Int.{from_le_bytes}
use Rattle.console.proofs.Spelled.{spelled_8}
use Rattle.console.proofs.input.U8Number.read.Goals as goal

pub returns-clause-value : goal.returns-clause-value
returns-clause-value c =
    c.from_le_bytes.ensures ∙ ap (from_le_bytes w8) c.in_ok-chunk.ensures.value ∙ spelled_8 c.args.input.now
