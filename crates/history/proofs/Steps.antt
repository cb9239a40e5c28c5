-- One step of the search through an array of which n entries count: the entry at place i, what it adds, and where the search stands then. Assumes nothing.
use mathlib.Core.Path.{◌≡◌, refl, sym, ap, ap₂, ◌∙◌}
use mathlib.Core.Bool.{Bool, true, false, not}
use mathlib.Core.List.{List, []}
use mathlib.Core.Logic.{⊎_elim}
use Prim.Native.Nat.{ℕ, ◌+◌, ◌-◌, ◌*◌, ◌≤◌, ◌<◌}
use native.Mathlib.Numerals.{lt_of_le_of_ne}
use native.Mathlib.Omega.{arith}
use lib.ListN.{length, get_or, take}
use lib.Seq.{length-take-le, get_or-take}
use Rattle.numbers.specs.Sums.{total}
use Rattle.numbers.specs.Lists.{every}
use Rattle.numbers.proofs.Sums.{cases}
use Rattle.numbers.proofs.Lists.{true≢false, never}
use Rattle.numbers.proofs.Places.{every_at}
use Rattle.calendar.specs.DayTypes.{day_type, same_type}
use Rattle.calendar.specs.declared.DayType.{DayType}
use Rattle.supply.specs.Amounts.{LIMIT}
use Rattle.history.specs.History.{ENTRIES, MATCHES, RealReading, entry_right, real_of, matching, sum_of, is_empty, real_value}
use Rattle.std.specs.Prelude.{None}
use Rattle.history.specs.declared.Reading.{Reading}
use Rattle.history.specs.declared.Reading.TheVariants.{Nothing, Real, Estimated, Own}
use Rattle.history.specs.declared.Entry.{Entry}
use Rattle.history.proofs.Searching.{nothing, Going, few_before, going_idle, going_other, going_match, match_small}

module _ (hs : List ℕ) (d n : ℕ) (xs : List Entry) (full : length xs ≡ 400) (fits : n ≤ ENTRIES) where
  -- the history that counts has as many entries as are counted
  abbrev pub es : List Entry
  es = take n xs

  pub es_long : length es ≡ n
  es_long = length-take-le n xs (omega arith)

  module _ (rights : every entry_right es ≡ true) (sum matches : ℕ) (real : Bool) (i : ℕ) (going : Going hs d es sum matches real i) (more : matches ≡ MATCHES → ⊥) (before_end : i ≡ n → ⊥) where
    pub left : i < length es
    left = lt_of_le_of_ne going.inside (λ e. before_end (e ∙ es_long))

    pub right : entry_right (get_or es i nothing) ≡ true
    right = every_at entry_right nothing es rights i left

    -- what an entry adds, given its reading: the real reading, if it is one, and if it matches
    abbrev pub real_at : Reading → List RealReading
    real_at r = real_of (d - (i + 1)) r

    abbrev pub match_at : Reading → List RealReading
    match_at r = matching hs (day_type hs d) (real_at r)

    abbrev Step : Reading → Type 0
    Step r =
        (matches + length (match_at r) ≤ MATCHES) × (sum + sum_of (match_at r) ≤ MATCHES * LIMIT)
        × (not (is_empty (real_at r)) ≡ true → Going hs d es (sum + sum_of (match_at r)) (matches + length (match_at r)) true (i + 1))
        × (not (is_empty (real_at r)) ≡ false → Going hs d es sum matches real (i + 1))

    idle_step : (r : Reading) → (get_or es i nothing).reading ≡ r → real_value r ≡ None → real_at r ≡ [] → Step r
    unfolding matching sum_of total
    idle_step r e none empty = rw empty (omega (arith, going.few), omega (arith, going.small, going.few), λ q. never q, λ q. going_idle hs d es going more left nothing (ap real_value e ∙ none))

    step : (r : Reading) → (get_or es i nothing).reading ≡ r → Step r
    unfolding matching sum_of total
    step Nothing e = idle_step Nothing e refl refl
    step (Estimated v) e = idle_step (Estimated v) e refl refl
    step (Own v) e = idle_step (Own v) e refl refl
    step (Real v) e =
        let few = few_before hs d es going more left nothing in
        let small : sum + v ≤ (matches + 1) * LIMIT = match_small hs d es going more left nothing e right in
        let z : sum + (v + 0) ≡ sum + v = omega arith in
        let y : sum + 0 ≡ sum = omega arith in
        let x : matches + 0 ≡ matches = omega arith in
        ⊎_elim
        (λ q. rw q (omega (arith, few), omega (arith, small, few), λ o. rw z (going_match hs d es going more left nothing e right q), λ o. true≢false o))
        (λ q. rw q (omega (arith, few), omega (arith, going.small, few), λ o. rw (y, x) (going_other hs d es going more left nothing e q), λ o. true≢false o))
        (cases (same_type (day_type hs (d - (i + 1))) (day_type hs d)))

    module _ (wanted : DayType) (w : wanted ≡ day_type hs d) where
      -- the same of the array's entry
      abbrev pub reals : List RealReading
      reals = real_at (get_or xs i nothing).reading

      abbrev pub hits : List RealReading
      hits = matching hs wanted reals

      same : (get_or xs i nothing).reading ≡ (get_or es i nothing).reading
      same = ap (λ e. e.reading) (sym (get_or-take n xs i nothing (omega (arith, left, es_long))))

      found : Step (get_or xs i nothing).reading
      found = step _ (sym same)

      pub hit : (reals ≡ real_at (get_or es i nothing).reading) × (hits ≡ match_at (get_or es i nothing).reading)
      hit = (ap real_at same, ap₂ (λ t r. matching hs t (real_at r)) w same)

      -- it leaves room
      pub matches_fit : matches + length hits ≤ MATCHES
      matches_fit = rw w found.0

      pub sum_fits : sum + sum_of hits ≤ MATCHES * LIMIT
      sum_fits = rw w found.1

      -- a real one is added, and one that is not real is passed over
      pub seen : not (is_empty reals) ≡ true → Going hs d es (sum + sum_of hits) (matches + length hits) true (i + 1)
      seen e = rw w (found.2 e)

      pub passed : not (is_empty reals) ≡ false → Going hs d es sum matches real (i + 1)
      passed e = found.3 e
