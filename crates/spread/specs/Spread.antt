-- Document 01, section "Spreading a reading": the call, its refusals and its buffer. Assumes nothing.
use Rattle.std.specs.Prelude.{not, List, [], ◌∷◌, ◌++◌, ◌≡◌, refl, ℕ, ltb, ℤ, pos, negsuc, length, drop}
use Rattle.numbers.specs.Sums.{table, sum, total}
use Rattle.numbers.specs.Lists.{every}
use Rattle.numbers.specs.Refusals.{OUT_OF_RANGE, NEGATIVE_WEIGHT, SHORT_BUFFER}
use Rattle.proration.specs.Proration.{prorateZ, prorate, counted, split, share, left, before}
use Rattle.point_day.specs.Limits.{AMOUNT}
use Rattle.point_day.specs.Calls.{Test, ◌when◌, Verdict, refuse, accept, verdict, negative}
use Rattle.spread.specs.Period.{in_range, parts}
use Rattle.std.specs.Prelude.{Result, Ok, Err}
use Rattle.numbers.specs.declared.Refusal.{Refusal}
use Rattle.numbers.specs.Refusals as Refusals

-- the rows of section "Refusals" that apply: 2, 11 ("reading split") and 14 ("lent buffer under .. one a day")
unfoldable pub tests : ℕ → List ℤ → List ℤ → List Test
tests reading weights buffer =
    (OUT_OF_RANGE when not (in_range reading weights))
    ∷ (NEGATIVE_WEIGHT when negative weights)
    ∷ (SHORT_BUFFER when ltb (length buffer) (length weights))
    ∷ []

-- whether the call is refused, and the lent buffer afterwards
pub record Outcome : Type 0 where
  pub verdict : Verdict
  pub buffer : List ℤ

abbrev pub outcome : Verdict → List ℤ → Outcome
outcome v b = record { verdict = v; buffer = b }

-- "A refused call .. changes nothing"; otherwise the parts stand in "a lent buffer whose later numbers stay"
abbrev pub by : Verdict → ℕ → List ℤ → List ℤ → Outcome
by (refuse n) reading weights buffer = outcome (refuse n) buffer
by accept reading weights buffer = outcome accept (parts reading weights ++ drop (length weights) buffer)

unfoldable pub spread : ℕ → List ℤ → List ℤ → Outcome
spread reading weights buffer = by (verdict (tests reading weights buffer)) reading weights buffer

-- what each case of the answer stands for
abbrev pub answer_of : {A : Type 0} → Result A Refusal → Verdict
answer_of (Ok _) = accept
answer_of (Err r) = refuse (Refusals.number_of r)

-- the same as one number: that of the refusal, or 0
abbrev pub number_of : Verdict → ℕ
number_of (refuse n) = n
number_of accept = 0

-- ---- examples

-- equal remainders go to the earlier day, and the buffer's fourth number stays
three_days : spread 11 (pos 5 ∷ pos 5 ∷ pos 5 ∷ []) (pos 7 ∷ pos 7 ∷ pos 7 ∷ pos 7 ∷ []) ≡ outcome accept (pos 4 ∷ pos 4 ∷ pos 3 ∷ pos 7 ∷ [])
unfolding spread tests verdict in_range every parts prorateZ prorate counted split share left before sum table total
three_days = refl

-- the larger remainder first, and nothing for a weight of 0 ..
by_weight : spread 10 (pos 0 ∷ pos 1 ∷ pos 6 ∷ []) (pos 7 ∷ pos 7 ∷ pos 7 ∷ []) ≡ outcome accept (pos 0 ∷ pos 1 ∷ pos 9 ∷ [])
unfolding spread tests verdict in_range every parts prorateZ prorate counted split share left before sum table total
by_weight = refl

-- .. unless all weights are 0
no_weight : spread 5 (pos 0 ∷ pos 0 ∷ []) (pos 7 ∷ pos 7 ∷ []) ≡ outcome accept (pos 3 ∷ pos 2 ∷ [])
unfolding spread tests verdict in_range every parts prorateZ prorate counted split share left before sum table total
no_weight = refl

-- a weight out of range and negative, in a buffer too short; a negative one in it; a buffer too short
refused_2 : spread 5 (negsuc AMOUNT ∷ []) [] ≡ outcome (refuse 2) []
unfolding spread tests verdict in_range every
refused_2 = refl

refused_11 : spread 5 (pos 3 ∷ negsuc 0 ∷ []) (pos 7 ∷ []) ≡ outcome (refuse 11) (pos 7 ∷ [])
unfolding spread tests verdict in_range every
refused_11 = refl

refused_14 : spread 5 (pos 3 ∷ pos 0 ∷ []) (pos 7 ∷ []) ≡ outcome (refuse 14) (pos 7 ∷ [])
unfolding spread tests verdict in_range every
refused_14 = refl
