-- Document 01, section "Spreading a reading": the ranges, the days and each day's part. Assumes nothing.
use Rattle.std.specs.Prelude.{Bool, List, [], ◌∷◌, map, ◌≡◌, refl, ℕ, suc, leb, ℤ, pos, nat_abs, length}
use Rattle.numbers.specs.Sums.{table, sum, total}
use Rattle.numbers.specs.Lists.{both, every}
use Rattle.proration.specs.Proration.{PARTIES, prorateZ, prorate, counted, split, share, left, before}
use Rattle.point_day.specs.Limits.{LIMIT, AMOUNT}
use Rattle.point_day.specs.Day.{no_more}

-- "A reading of 0 to 1,000,000,000 .. the 1 to 366 days of its period .. The weights are the point's provisional consumption, losses
-- and balance of that kind on each day, each −2,000,000,000 to 2,000,000,000": a weight for each day
unfoldable pub in_range : ℕ → List ℤ → Bool
in_range reading weights =
    both (leb reading LIMIT)
    (both (both (leb 1 (length weights)) (leb (length weights) PARTIES)) (every (no_more AMOUNT) weights))

-- the days of a period, numbered from its first: the "earlier day" of two is the lower number
abbrev pub days : ℕ → List ℕ
days n = table suc n

-- "is prorated over the .. days of its period": each day's part of the reading, for weights none of which is negative
unfoldable pub parts : ℕ → List ℤ → List ℤ
parts reading weights = prorateZ (pos reading) (map nat_abs weights) (days (length weights))

-- ---- examples

-- equal remainders go to the earlier day
three_days : parts 11 (pos 5 ∷ pos 5 ∷ pos 5 ∷ []) ≡ pos 4 ∷ pos 4 ∷ pos 3 ∷ []
unfolding parts prorateZ prorate counted split share left before sum table total
three_days = refl

-- the larger remainder first, and nothing for a weight of 0
by_weight : parts 10 (pos 0 ∷ pos 1 ∷ pos 6 ∷ []) ≡ pos 0 ∷ pos 1 ∷ pos 9 ∷ []
unfolding parts prorateZ prorate counted split share left before sum table total
by_weight = refl
