-- The tests of `split`, and what follows from them. Assumes nothing.
use Rattle.std.proofs.Common.{◌≡◌, ℕ, zero, suc, ◌<◌, ◌≤◌, true, false, eqb, ltb, leb, List, [], ◌∷◌, ◌++◌, length, drop, ℤ, nat_abs, arith, ltb-true, le-ltb, lt-ltb, eqb-true, leb-true}
use Rattle.numbers.specs.Sums.{Bounded}
use Rattle.numbers.specs.Lists.{every, distinct}
use Rattle.numbers.specs.Amounts.{Within}
use Rattle.numbers.proofs.Lists.{both_fst, both_snd}
use Rattle.proration.specs.Proration.{PARTIES, LARGEST_AMOUNT, LARGEST_WEIGHT, prorateZ}
use Rattle.split.specs.Call.{in_range, answer, after}

-- `every` by places

every_bounded : (m : ℕ) (xs : List ℕ) → every (λ x. leb x m) xs ≡ true → Bounded m xs
unfolding every
every_bounded m [] h i = omega arith
every_bounded m (x ∷ xs) h zero = leb-true x m (both_fst (leb x m) (every (λ y. leb y m) xs) h)
every_bounded m (x ∷ xs) h (suc i) = every_bounded m xs (both_snd (leb x m) (every (λ y. leb y m) xs) h) i

-- what is known of arguments in range
pub record Ranged (z : ℤ) (ws ks : List ℕ) : Type 0 where
  pub amount : Within LARGEST_AMOUNT z
  pub some : 0 < length ws
  pub few : length ws ≤ PARTIES
  pub keyed : length ws ≡ length ks
  pub apart : distinct ks ≡ true
  pub weights : Bounded LARGEST_WEIGHT ws

module _ (z : ℤ) (ws ks : List ℕ) where
  pub ranged : in_range z ws ks ≡ true → Ranged z ws ks
  unfolding in_range
  ranged h =
      let n = length ws in
      let a = leb (nat_abs z) LARGEST_AMOUNT in
      let w = every (λ x. leb x LARGEST_WEIGHT) ws in
      let h₁ = both_snd a _ h in
      let h₂ = both_snd (ltb 0 n) _ h₁ in
      let h₃ = both_snd (leb n PARTIES) _ h₂ in
      let h₄ = both_snd (eqb n (length ks)) _ h₃ in record {
        amount = record { size = leb-true (nat_abs z) LARGEST_AMOUNT (both_fst a _ h) };
        some = ltb-true 0 n (both_fst (ltb 0 n) _ h₁);
        few = leb-true n PARTIES (both_fst (leb n PARTIES) _ h₂);
        keyed = eqb-true n (length ks) (both_fst (eqb n (length ks)) _ h₃);
        apart = both_snd w _ h₄;
        weights = every_bounded LARGEST_WEIGHT ws (both_fst w _ h₄);
      }

  -- what the call answers and leaves
  module _ (out : List ℤ) where
    pub refused : in_range z ws ks ≡ false → (2 ≡ answer z ws ks out) × (out ≡ after z ws ks out)
    unfolding answer after
    refused h = (rw h, rw h)

    pub too_short : in_range z ws ks ≡ true → length out < length ws → (14 ≡ answer z ws ks out) × (out ≡ after z ws ks out)
    unfolding answer after
    too_short h l = (rw (h, lt-ltb (length out) (length ws) l), rw (h, lt-ltb (length out) (length ws) l))

    pub done : in_range z ws ks ≡ true → length ws ≤ length out → {new : List ℤ} → new ≡ prorateZ z ws ks ++ drop (length ws) out
        → (0 ≡ answer z ws ks out) × (new ≡ after z ws ks out)
    unfolding answer after
    done h l e = (rw (h, le-ltb (length out) (length ws) l), rw (h, le-ltb (length out) (length ws) l) e)
