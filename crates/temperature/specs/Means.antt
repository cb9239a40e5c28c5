-- The average of the means of one winter, or of two, as the code holds them. Assumes nothing. No exported contract leans on it.
use Rattle.std.specs.Prelude.{List, ℕ, Option, None, Some}
use denote.Ref.{Bor}
use Rattle.temperature.specs.declared.Fraction.{Fraction}
use Rattle.temperature.specs.Temperature.{mean, sum, divided}

abbrev pub average : List ℕ → Option (Bor (List ℕ)) → Fraction
average first None = mean first
average first (Some second) = divided (sum (mean first) (mean second.now)) 2
