-- The values of answers, as numbers. Assumes nothing. No exported contract leans on it.
use Rattle.std.specs.Prelude.{List, [], ◌∷◌, ℕ, ℤ, pos}
use Rattle.revise.specs.declared.Revision.{Revision}
use Rattle.revise.specs.declared.Revision.TheVariants.{Within, Assigned}

abbrev pub amount : ℕ → List ℤ
amount n = pos n ∷ []

-- 1 if R is within the tolerance, 0 if it is assigned; and R
abbrev pub revision : Revision → List ℤ
revision (Within R) = pos 1 ∷ R ∷ []
revision (Assigned R) = pos 0 ∷ R ∷ []
