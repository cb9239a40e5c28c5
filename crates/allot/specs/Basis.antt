-- The kinds that the weights are of. Assumes nothing. No exported contract leans on it.
use Rattle.std.specs.Prelude.{Bool, true, false}
use Rattle.allot.specs.declared.weights.Kinds.{Kinds}
use Rattle.allot.specs.declared.weights.Kinds.TheVariants.{From2To5, All}

-- whether the weights are of all kinds, not of kinds 2 to 5 alone
abbrev pub are_all : Kinds → Bool
are_all From2To5 = false
are_all All = true
