-- The laws of a spread that is not refused. Assumes nothing.
use mathlib.Core.Path.{◌≡◌, refl, ap, ◌∙◌}
use mathlib.Core.List.{List, ◌++◌, map}
use mathlib.Core.Logic.{⊎_elim}
use Prim.Native.Nat.{ℕ, suc, ◌<◌}
use native.Mathlib.Omega.{arith}
use lib.IntN.{ℤ, pos, nat_abs}
use lib.ListN.{length, take, drop, length-map, get_or-append}
use lib.Seq.{take_at, drop_at}
use Rattle.numbers.specs.Sums.{atZ, totalZ}
use Rattle.numbers.specs.Amounts.{is_negative}
use Rattle.numbers.proofs.Sums.{cases, length_table}
use Rattle.proration.specs.Laws.{Fair}
use Rattle.proration.proofs.Fairness.{fair}
use Rattle.point_day.specs.Calls.{Verdict, refuse, accept, verdict}
use Rattle.spread.specs.Period.{in_range, days, parts}
use Rattle.spread.specs.Spread.{Outcome, by, spread, tests}
use Rattle.spread.specs.Laws.{SpreadLaws}
use Rattle.spread.proofs.Ranges.{in_range_facts}
use Rattle.spread.proofs.Outcomes.{out_of_range}
use Rattle.spread.proofs.Periods.{days_distinct}

module _ (reading : ℕ) (ws buffer : List ℤ) where
  -- the buffer, if the call is not refused
  filled : (spread reading ws buffer).verdict ≡ accept → (spread reading ws buffer).buffer ≡ parts reading ws ++ drop (length ws) buffer
  unfolding spread
  filled e = go (verdict (tests reading ws buffer)) e
    where
      go : (v : Verdict) → (by v reading ws buffer).verdict ≡ accept → (by v reading ws buffer).buffer ≡ parts reading ws ++ drop (length ws) buffer
      go (refuse n) e = absurd (let z : ◌≡◌ {A = ℕ} 0 1 = cc in omega arith)
      go accept e = refl

  -- and then there is a day
  some : (spread reading ws buffer).verdict ≡ accept → 0 < length ws
  some e =
      ⊎_elim (λ t. (in_range_facts reading ws t).some)
      (λ t. differ (ap (λ (o : Outcome). o.verdict) (out_of_range reading ws buffer t) ∙ e))
      (cases (in_range reading ws))
    where
      differ : {A : Type 0} → refuse 2 ≡ accept → A
      differ f = absurd (let z : ◌≡◌ {A = ℕ} 0 1 = cc in omega arith)

  module _ (ok : (spread reading ws buffer).verdict ≡ accept) where
    -- proration's laws at the sizes of the weights and the days
    law : Fair (pos reading) (map nat_abs ws) (days (length ws))
    law = fair (pos reading) (map nat_abs ws) (days (length ws)) (omega (arith, some ok, length-map ws nat_abs)) (days_distinct (length ws)) (omega (arith, length-map ws nat_abs, length_table suc (length ws)))

    parts_long : length (parts reading ws) ≡ length ws
    unfolding parts
    parts_long = law.parties ∙ length-map ws nat_abs

    -- a day's number in the buffer
    day_is : (i : ℕ) → i < length ws → atZ (spread reading ws buffer).buffer i ≡ atZ (parts reading ws) i
    day_is i l = ap (λ b. atZ b i) (filled ok) ∙ get_or-append (parts reading ws) (drop (length ws) buffer) (pos 0) i (omega (arith, parts_long))

    first : take (length ws) (spread reading ws buffer).buffer ≡ parts reading ws
    first = ap (take (length ws)) (filled ok) ∙ take_at (parts reading ws) (drop (length ws) buffer) (length ws) parts_long

    pub spread_laws : SpreadLaws reading ws buffer
    unfolding parts
    spread_laws = record {
      adds_up = ap totalZ first ∙ law.adds_up;
      near = λ i l. rw (day_is i l) (law.near i (omega (arith, length-map ws nat_abs)));
      none_below = λ i l. ap is_negative (day_is i l) ∙ ⊎_elim (λ z. ap is_negative z) (λ z. z) (law.sign i (omega (arith, length-map ws nat_abs)));
      later = ap (drop (length ws)) (filled ok) ∙ drop_at (parts reading ws) (drop (length ws) buffer) (length ws) parts_long;
    }
