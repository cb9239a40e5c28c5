-- The search through a history: what is found so far and what the rest of the history adds make what there is to find. Assumes nothing.
use mathlib.Core.Path.{◌≡◌, refl, sym, ap, ◌∙◌}
use mathlib.Core.Bool.{Bool, true, false, not}
use mathlib.Core.List.{List, [], ◌∷◌, ◌++◌}
use Prim.Native.Nat.{ℕ, suc, ◌+◌, ◌-◌, ◌*◌, ◌≤◌, ◌<◌}
use native.Mathlib.Omega.{arith}
use native.Mathlib.Numerals.{add-one, lt_of_le_of_ne}
use lib.Dec.{eqb}
use lib.ListN.{length, get_or, take, drop, drop_of_length-le}
use lib.Seq.{drop-cons, take-nil}
use borrow.Author.Tests.{eq-eqb, ne_eqb, eqb-true, leb-true}
use Rattle.numbers.specs.Sums.{pick, total}
use Rattle.numbers.specs.Lists.{either}
use Rattle.numbers.proofs.Lists.{either_none, either_end}
use Rattle.std.specs.Prelude.{None}
use Rattle.calendar.specs.DayTypes.{day_type, same_type}
use Rattle.calendar.specs.declared.DayType.{DayType}
use Rattle.supply.specs.Amounts.{LIMIT}
use Rattle.history.specs.History.{MATCHES, Dated, RealReading, reading_right, dated, real_of, real_readings, matching, last_three, sum_of, looked_at, is_empty, is_new, real_value}
use Rattle.history.specs.Search.{found_in}
use Rattle.history.specs.declared.Reading.{Reading}
use Rattle.history.specs.declared.Reading.TheVariants.{Nothing, Real}
use Rattle.history.specs.declared.Entry.{Entry}
use Rattle.history.specs.declared.Found.{Found}
use Rattle.history.proofs.Laws.{none_real}

-- an entry without a reading, which no place has past the end
abbrev pub nothing : Entry
nothing = record { reading = Nothing }

-- the day of the last of some readings
last_day : ℕ → List RealReading → ℕ
last_day x [] = x
last_day x (m ∷ ms) = last_day m.day ms

module _ (hs : List ℕ) (d n : ℕ) where
  abbrev t : DayType
  t = day_type hs d

  -- what is found: the matches before, and those of a list after them, on days before x
  made : ℕ → ℕ → Bool → ℕ → List RealReading → Found
  made sum matches real x ms = record {
    sum = sum + sum_of ms;
    matches = matches + length ms;
    looked = pick (eqb (matches + length ms) MATCHES) (d - last_day x ms) n;
    real = real;
  }

  -- the same, given the real readings from place i on
  pub whole : ℕ → ℕ → Bool → ℕ → List RealReading → Found
  whole sum matches real i rs = made sum matches (either real (not (is_empty rs))) (d - i) (take (MATCHES - matches) (matching hs t rs))

  -- ---- the start

  third_last : (x : ℕ) (ms : List RealReading) → length ms ≡ MATCHES → last_day x ms ≡ (get_or ms (MATCHES - 1) (record { day = 0; value = 0 })).day
  unfolding last_day
  third_last x [] e = absurd (omega arith)
  third_last x (a ∷ []) e = absurd (omega arith)
  third_last x (a ∷ (b ∷ [])) e = absurd (omega arith)
  third_last x (a ∷ (b ∷ (c ∷ []))) e = refl
  third_last x (a ∷ (b ∷ (c ∷ (g ∷ ms)))) e = absurd (omega arith)

  looked_first : (x : ℕ) (ms : List RealReading) → pick (eqb (0 + length ms) MATCHES) (d - last_day x ms) n ≡ looked_at d n ms
  unfolding looked_at
  looked_first x ms = let z : 0 + length ms ≡ length ms = omega arith in rw z (go (eqb (length ms) MATCHES) refl)
    where
      go : (b : Bool) → eqb (length ms) MATCHES ≡ b → pick b (d - last_day x ms) n ≡ pick b (d - (get_or ms (MATCHES - 1) (record { day = 0; value = 0 })).day) n
      go true e = ap (λ y. d - y) (third_last x ms (eqb-true (length ms) MATCHES e))
      go false e = refl

  pub start : (xs : List Dated) → found_in hs d n xs ≡ whole 0 0 false 0 (real_readings xs)
  unfolding found_in whole made last_three is_new
  start xs =
      let ms = take MATCHES (matching hs t (real_readings xs)) in
      let a : sum_of ms ≡ 0 + sum_of ms = omega arith in
      let b : length ms ≡ 0 + length ms = omega arith in
      λ k. record { sum = a k; matches = b k; looked = sym (looked_first (d - 0) ms) k; real = not (is_empty (real_readings xs)) }

  -- ---- one entry

  -- the days before which matches are looked for play no part if more matches are wanted
  made_idle : (sum matches : ℕ) (real : Bool) (x y : ℕ) → matches < MATCHES → (ms : List RealReading) → made sum matches real x ms ≡ made sum matches real y ms
  unfolding made last_day
  made_idle sum matches real x y few [] = rw (ne_eqb (matches + 0) MATCHES (λ e. omega arith))
  made_idle sum matches real x y few (m ∷ ms) = refl

  made_match : (sum matches : ℕ) (real : Bool) (x : ℕ) (m : RealReading) (ms : List RealReading) → made sum matches real x (m ∷ ms) ≡ made (sum + m.value) (matches + 1) real m.day ms
  unfolding made last_day sum_of total
  made_match sum matches real x m ms =
      let a : sum + (m.value + sum_of ms) ≡ sum + m.value + sum_of ms = omega arith in
      let b : matches + suc (length ms) ≡ matches + 1 + length ms = omega arith in
      rw (a, b)

  made_end : (sum matches : ℕ) (real : Bool) (x y : ℕ) → pick (eqb matches MATCHES) (d - x) n ≡ y → made sum matches real x [] ≡ record { sum = sum; matches = matches; looked = y; real = real }
  unfolding made last_day sum_of total
  made_end sum matches real x y e =
      let a : sum + 0 ≡ sum = omega arith in
      let b : matches + 0 ≡ matches = omega arith in
      rw (a, b) (ap (λ l. record { sum = sum; matches = matches; looked = l; real = real }) e)

  module _ (sum matches : ℕ) (real : Bool) (i : ℕ) (few : matches < MATCHES) (rs : List RealReading) where
    -- an entry that is not real adds nothing
    pub idle : whole sum matches real i rs ≡ whole sum matches real (i + 1) rs
    unfolding whole
    idle = made_idle sum matches _ (d - i) (d - (i + 1)) few _

    module _ (v : ℕ) where
      abbrev m : RealReading
      m = record { day = d - (i + 1); value = v }

      -- a real reading on a day of another type
      pub other : same_type (day_type hs (d - (i + 1))) t ≡ false → whole sum matches real i (m ∷ rs) ≡ whole sum matches true (i + 1) rs
      unfolding whole matching
      other e = rw (e, either_end real) (made_idle sum matches true (d - i) (d - (i + 1)) few _)

      -- a match
      pub match : same_type (day_type hs (d - (i + 1))) t ≡ true → whole sum matches real i (m ∷ rs) ≡ whole (sum + v) (matches + 1) true (i + 1) rs
      unfolding whole matching
      match e =
          let k : MATCHES - matches ≡ suc (MATCHES - (matches + 1)) = omega arith in
          rw (e, k, either_end real) (made_match sum matches true (d - i) m _)

-- ---- the loop

module _ (hs : List ℕ) (d : ℕ) (es : List Entry) where
  pub reals_from : ℕ → List RealReading
  reals_from i = real_readings (dated (d - i) (drop i es))

  reals_next : (i : ℕ) (e₀ : Entry) → i < length es → reals_from i ≡ real_of (d - (i + 1)) (get_or es i e₀).reading ++ reals_from (i + 1)
  unfolding reals_from dated real_readings
  reals_next i e₀ l =
      let z : d - i - 1 ≡ d - (i + 1) = omega arith in
      rw (drop-cons es i e₀ l, z, add-one i)

  -- the search has come to place i
  pub record Going (sum matches : ℕ) (real : Bool) (i : ℕ) : Type 0 where
    pub inside : i ≤ length es
    pub few : matches ≤ MATCHES
    pub small : sum ≤ matches * LIMIT
    pub seen : 0 < matches → real ≡ true
    pub is : found_in hs d (length es) (dated d es) ≡ whole hs d (length es) sum matches real i (reals_from i)

  pub going_start : Going 0 0 false 0
  unfolding reals_from
  going_start = record {
    inside = omega arith;
    few = omega arith;
    small = omega arith;
    seen = λ l. absurd (omega arith);
    is = let z : d - 0 ≡ d = omega arith in rw z (start hs d (length es) (dated d es));
  }

  module _ {sum matches : ℕ} {real : Bool} {i : ℕ} (g : Going sum matches real i) where
    -- an entry is looked at
    module _ (more : matches ≡ MATCHES → ⊥) (left : i < length es) (e₀ : Entry) where
      abbrev here : Reading
      here = (get_or es i e₀).reading

      pub few_before : matches < MATCHES
      few_before = lt_of_le_of_ne g.few more

      -- one that is not real adds nothing
      pub going_idle : real_value here ≡ None → Going sum matches real (i + 1)
      going_idle none = record {
        inside = omega (arith, left);
        few = g.few;
        small = g.small;
        seen = g.seen;
        is =
            g.is
            ∙ ap (whole hs d (length es) sum matches real i) (reals_next i e₀ left ∙ ap (λ ms. ms ++ reals_from (i + 1)) (none_real (d - (i + 1)) here none))
            ∙ idle hs d (length es) sum matches real i few_before (reals_from (i + 1));
      }

      -- a real one is remembered, and counts if its day is of the gas day's type
      module _ {v : ℕ} (is : here ≡ Real v) where
        next : reals_from i ≡ record { day = d - (i + 1); value = v } ∷ reals_from (i + 1)
        next = reals_next i e₀ left ∙ ap (λ r. real_of (d - (i + 1)) r ++ reals_from (i + 1)) is

        pub going_other : same_type (day_type hs (d - (i + 1))) (day_type hs d) ≡ false → Going sum matches true (i + 1)
        going_other e = record {
          inside = omega (arith, left);
          few = g.few;
          small = g.small;
          seen = λ l. refl;
          is = g.is ∙ ap (whole hs d (length es) sum matches real i) next ∙ other hs d (length es) sum matches real i few_before (reals_from (i + 1)) v e;
        }

        module _ (right : reading_right here ≡ true) where
          pub match_small : sum + v ≤ (matches + 1) * LIMIT
          match_small = omega (arith, g.small, leb-true v LIMIT (sym (ap reading_right is) ∙ right))

          pub going_match : same_type (day_type hs (d - (i + 1))) (day_type hs d) ≡ true → Going (sum + v) (matches + 1) true (i + 1)
          going_match e = record {
            inside = omega (arith, left);
            few = omega (arith, few_before);
            small = match_small;
            seen = λ l. refl;
            is = g.is ∙ ap (whole hs d (length es) sum matches real i) next ∙ match hs d (length es) sum matches real i few_before (reals_from (i + 1)) v e;
          }

    -- the third match ends it
    pub third : matches ≡ MATCHES → length es ≤ d → record { sum = sum; matches = matches; looked = i; real = real } ≡ found_in hs d (length es) (dated d es)
    unfolding whole
    third e l =
        let z : MATCHES - matches ≡ 0 = omega arith in
        let y : d - (d - i) ≡ i = omega (arith, g.inside) in
        let r : either real (not (is_empty (reals_from i))) ≡ real = rw (g.seen (omega arith)) in
        sym
        (g.is
        ∙ rw (z, r) (made_end hs d (length es) sum matches real (d - i) i (rw (eq-eqb matches MATCHES e) y)))

    -- or the end of the history
    pub at_end : (matches ≡ MATCHES → ⊥) → i ≡ length es → record { sum = sum; matches = matches; looked = i; real = real } ≡ found_in hs d (length es) (dated d es)
    unfolding whole reals_from dated real_readings matching
    at_end more e =
        sym
        (g.is
        ∙ rw (drop_of_length-le es {i = i} (omega arith), take-nil (MATCHES - matches), either_none real) (made_end hs d (length es) sum matches real (d - i) i (rw (ne_eqb matches MATCHES more) (sym e))))
