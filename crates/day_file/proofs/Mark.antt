-- The mark of a day file is its first four bytes. Assumes nothing.
use Rattle.std.proofs.Common.{◌≡◌, refl, ◌∙◌, List, [], ◌∷◌, ℕ, ◌≤◌, Bool, true, false, ◌&&◌, length, take, nat_eq, eqb, arith}
use Rattle.std.proofs.lemmas.Cmp.{nat_list_eq_equiv}
use lib.Pointwise.{pointwise}
use Rattle.numbers.specs.Lists.{both}
use Rattle.day_file.specs.Form.{HEADER, has_mark}

-- `REP1`
abbrev pub mark : List ℕ
mark = 82 ∷ 69 ∷ 80 ∷ 49 ∷ []

tests : (p q r s : Bool) → p && (q && (r && (s && true))) ≡ both p (both q (both r s))
tests true true true true = refl
tests true true true false = refl
tests true true false s = refl
tests true false r s = refl
tests false q r s = refl

pub marked : (f : List ℕ) → HEADER ≤ length f → pointwise nat_eq mark (take 4 f) ≡ has_mark f
marked (a ∷ (b ∷ (c ∷ (d ∷ f)))) l = nat_list_eq_equiv.symm mark (a ∷ b ∷ c ∷ d ∷ []) ∙ tests (eqb a 82) (eqb b 69) (eqb c 80) (eqb d 49)
marked [] l = absurd (omega arith)
marked (a ∷ []) l = absurd (omega arith)
marked (a ∷ (b ∷ [])) l = absurd (omega arith)
marked (a ∷ (b ∷ (c ∷ []))) l = absurd (omega arith)
