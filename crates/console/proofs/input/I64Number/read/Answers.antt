use mathlib.Core.Path.{ap, ◌∙◌}
use mir.Syntax.{w64}
use mir.Val.{SFits}
use mir.Facts.{to_z-of_z}
use borrow.Author.Rules.{rules}
use Rattle.std.specs.Int.{cast_signed, from_le_bytes}
use Rattle.console.proofs.Spelled.{spelled_64, signed_is}
use Rattle.console.proofs.input.I64Number.read.Goals as goal

pub returns-clause-value : goal.returns-clause-value
returns-clause-value c =
    let h : SFits w64 c.from_le_bytes.result = search rules in
    to_z-of_z h ∙ c.from_le_bytes.ensures ∙ ap (λ bytes. cast_signed w64 (from_le_bytes w64 bytes)) c.in_ok-chunk.ensures.value ∙ ap (cast_signed w64) (spelled_64 c.args.input.now) ∙ signed_is _
