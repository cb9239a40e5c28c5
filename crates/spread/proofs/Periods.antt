-- The days of a period and the sizes of their weights. Assumes nothing.
use mathlib.Core.Path.{◌≡◌, ap, ap₂, ◌∙◌}
use mathlib.Core.Bool.{true}
use mathlib.Core.List.{List, [], ◌∷◌, ◌++◌, map}
use Prim.Native.Nat.{ℕ, zero, suc, ◌≤◌, ◌<◌}
use native.Mathlib.Omega.{arith}
use lib.IntN.{ℤ, pos, nat_abs}
use lib.ListN.{length, drop}
use mir.Syntax.{w64}
use mir.Val.{SFits, to_z}
use mir.Facts.{to_z_pos}
use Rattle.numbers.specs.Sums.{atZ, Bounded}
use Rattle.numbers.specs.Lists.{every, Distinct}
use Rattle.numbers.specs.Amounts.{Within}
use Rattle.numbers.proofs.Sums.{length_table, getD_table}
use Rattle.numbers.proofs.Amounts.{within_test, widen}
use Rattle.proration.specs.Proration.{PARTIES, LARGEST_WEIGHT, LARGEST_AMOUNT, prorateZ}
use Rattle.point_day.specs.Limits.{AMOUNT}
use Rattle.point_day.specs.Day.{no_more}
use Rattle.columns.specs.Summable.{SUMMABLE}
use Rattle.columns.proofs.Shared.{sizes_long, sizes_bounded}
use Rattle.numbers.proofs.Lists.{both_fst, both_snd}
use Rattle.spread.specs.Period.{in_range, days, parts}
use Rattle.spread.proofs.Ranges.{InRange, in_range_facts}

-- weights in range, by place
within_range : (ws : List ℤ) → every (no_more AMOUNT) ws ≡ true → (i : ℕ) → Within AMOUNT (atZ ws i)
unfolding every
within_range [] e i = record { size = omega arith }
within_range (w ∷ ws) e zero = within_test w (both_fst (no_more AMOUNT w) _ e)
within_range (w ∷ ws) e (suc i) = within_range ws (both_snd (no_more AMOUNT w) _ e) i

pub weight_summable : (ws : List ℤ) → every (no_more AMOUNT) ws ≡ true → (i : ℕ) → Within SUMMABLE (atZ ws i)
weight_summable ws e i = widen (within_range ws e i) (omega arith)

pub days_distinct : (n : ℕ) → Distinct (days n)
days_distinct n i j l m e =
    omega (arith, getD_table suc n i 0 (omega (arith, length_table suc n)), getD_table suc n j 0 (omega (arith, length_table suc n)))

-- ---- what proration asks of the sizes and the days, and what it gives

module _ (reading : ℕ) (ws : List ℤ) (right : in_range reading ws ≡ true) where
  facts : InRange reading ws
  facts = in_range_facts reading ws right

  -- the reading as a signed number
  pub reading_fits : SFits w64 (pos reading)
  reading_fits = record { sfits = omega (arith, facts.reading) }

  reading_is : to_z w64 reading ≡ pos reading
  reading_is = to_z_pos w64 {n = reading} (omega (arith, facts.reading))

  module _ {sizes : List ℕ} (are : sizes ≡ map nat_abs ws) where
    long_sizes : length sizes ≡ length ws
    long_sizes = sizes_long ws are

    sizes_small : Bounded LARGEST_WEIGHT sizes
    sizes_small = sizes_bounded ws are (within_range ws facts.weights)

    pub total_asks : (length sizes ≤ PARTIES) × Bounded LARGEST_WEIGHT sizes
    total_asks = (omega (arith, long_sizes, facts.few), sizes_small)

    module _ (n : ℕ) (long : n ≡ length ws) {keys : List ℕ} (are-days : keys ≡ days n) (out : List ℤ) where
      pub split_asks : length ws ≤ length out
          → (Within LARGEST_AMOUNT (to_z w64 reading) × (0 < length sizes) × (length sizes ≤ PARTIES))
          × ((length sizes ≤ length keys) × (length sizes ≤ length out))
      split_asks l =
          let k = ap length are-days ∙ length_table suc n ∙ long in
          ((rw reading_is (record { size = facts.reading }), omega (arith, long_sizes, facts.some), omega (arith, long_sizes, facts.few)), (omega (arith, long_sizes, k), omega (arith, long_sizes)))

      pub parts_are : {after : List ℤ} → after ≡ prorateZ (to_z w64 reading) sizes keys ++ drop (length sizes) out → after ≡ parts reading ws ++ drop (length ws) out
      unfolding parts
      parts_are h =
          h
          ∙ ap₂ (λ z m. prorateZ z sizes keys ++ drop m out) reading_is long_sizes
          ∙ ap₂ (λ s k. prorateZ (pos reading) s k ++ drop (length ws) out) are (are-days ∙ ap days long)
