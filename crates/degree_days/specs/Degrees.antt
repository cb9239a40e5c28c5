-- Document 01, "Degree days": those of one day. Assumes nothing.
use Rattle.std.specs.Prelude.{Bool, not, [], ◌∷◌, ◌≡◌, refl, ℤ, pos, negsuc, ◌+ℤ◌, ◌-ℤ◌, ◌*ℤ◌, ℕ, Result, Ok, Err}
use Rattle.std.specs.Int.Signed.{lt_z, le_z}
use Rattle.numbers.specs.Sums.{pick}
use Rattle.numbers.specs.Lists.{both}
use Rattle.numbers.specs.Refusals.{OUT_OF_RANGE, number_of}
use Rattle.numbers.specs.declared.Refusal.{Refusal}
use Rattle.calendar.specs.Answers.{Answer, refused, given, ◌when◌, tested}

-- temperatures are in tenths of a degree, −500 to 600
abbrev pub LOWEST : ℤ
LOWEST = negsuc 499

abbrev pub HIGHEST : ℤ
HIGHEST = pos 600

-- 15 degrees, and twice 15 degrees
abbrev pub BASE : ℤ
BASE = pos 150

abbrev pub TWICE_BASE : ℤ
TWICE_BASE = pos 300

-- "tmin ≤ tmax in tenths (−500 to 600)"
unfoldable pub temperatures_right : ℤ → ℤ → Bool
temperatures_right tmin tmax = both (le_z LOWEST tmin) (both (le_z tmin tmax) (le_z tmax HIGHEST))

-- "0 if tmin ≥ 150; 2 × (300 − tmin − tmax) if tmax < 150; else 150 − tmin if tmin + tmax > 300;
-- else 2 × (150 − tmin) − (tmax − 150)", in fortieths of a degree
unfoldable pub degree_days : ℤ → ℤ → ℤ
degree_days tmin tmax =
    pick (le_z BASE tmin) (pos 0)
    (pick (lt_z tmax BASE) (pos 2 *ℤ (TWICE_BASE -ℤ tmin -ℤ tmax))
    (pick (lt_z TWICE_BASE (tmin +ℤ tmax)) (BASE -ℤ tmin)
    (pos 2 *ℤ (BASE -ℤ tmin) -ℤ (tmax -ℤ BASE))))

-- the call
unfoldable pub degree_days_call : ℤ → ℤ → Answer ℤ
degree_days_call tmin tmax =
    tested ((OUT_OF_RANGE when not (temperatures_right tmin tmax)) ∷ []) (given (degree_days tmin tmax))

-- what the code's answer stands for: fortieths of a degree are never negative
abbrev pub answer_of : Result ℕ Refusal → Answer ℤ
answer_of (Ok n) = given (pos n)
answer_of (Err r) = refused (number_of r)

-- -0.1 to 0.1 degrees; the coldest and the warmest days
about_zero : degree_days (negsuc 0) (pos 1) ≡ pos 600
unfolding degree_days
about_zero = refl

coldest : degree_days LOWEST LOWEST ≡ pos 2600
unfolding degree_days
coldest = refl

widest : degree_days LOWEST HIGHEST ≡ pos 850
unfolding degree_days
widest = refl
