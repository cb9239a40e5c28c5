-- The range of reading and weights, from what the tests showed. Assumes nothing.
use mathlib.Core.Path.{◌≡◌}
use mathlib.Core.Bool.{true}
use mathlib.Core.List.{List}
use Prim.Native.Nat.{ℕ, ◌≤◌}
use lib.Dec.{leb}
use lib.IntN.{ℤ}
use lib.ListN.{length}
use borrow.Author.Tests.{leb-true}
use Rattle.numbers.specs.Lists.{both, every}
use Rattle.numbers.proofs.Lists.{both_fst, both_snd}
use Rattle.proration.specs.Proration.{PARTIES}
use Rattle.point_day.specs.Limits.{LIMIT, AMOUNT}
use Rattle.point_day.specs.Day.{no_more}
use Rattle.spread.specs.Period.{in_range}

pub record InRange (a : ℕ) (ws : List ℤ) : Type 0 where
  pub reading : a ≤ LIMIT
  pub some : 1 ≤ length ws
  pub few : length ws ≤ PARTIES
  pub weights : every (no_more AMOUNT) ws ≡ true

module _ (reading : ℕ) (ws : List ℤ) where
  pub in_range_facts : in_range reading ws ≡ true → InRange reading ws
  unfolding in_range
  in_range_facts e =
      let e₁ = both_snd (leb reading LIMIT) _ e in
      let e₂ = both_fst (both (leb 1 (length ws)) (leb (length ws) PARTIES)) _ e₁ in
      record {
        reading = leb-true reading LIMIT (both_fst (leb reading LIMIT) _ e);
        some = leb-true 1 (length ws) (both_fst (leb 1 (length ws)) _ e₂);
        few = leb-true (length ws) PARTIES (both_snd (leb 1 (length ws)) _ e₂);
        weights = both_snd (both (leb 1 (length ws)) (leb (length ws) PARTIES)) _ e₁;
      }
