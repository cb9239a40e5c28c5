-- User numbers of a row, each above the one before: the test place by place. Assumes nothing.
use mathlib.Core.Path.{◌≡◌, refl, sym, ap, ◌∙◌}
use mathlib.Core.Bool.{true, false}
use mathlib.Core.List.{List, [], ◌∷◌}
use Prim.Native.Nat.{ℕ, zero, suc, ◌≤◌, ◌<◌}
use native.Mathlib.Omega.{arith}
use lib.Dec.{ltb}
use lib.ListN.{length}
use borrow.Author.Tests.{le-leb, lt-leb, lt-ltb, le-ltb}
use Rattle.numbers.specs.Sums.{at}
use Rattle.numbers.specs.Lists.{both, every, rising}
use Rattle.numbers.proofs.Lists.{both_true, both_none}
use Rattle.point_day.specs.Limits.{LAST_NUMBER}
use Rattle.point_day.specs.Day.{is_number}
use Rattle.numbers.proofs.Places.{one_fails, at_every}

-- ---- rising, place by place

rising_at : (xs : List ℕ) → ((k : ℕ) → suc k < length xs → at xs k < at xs (suc k)) → rising xs ≡ true
unfolding rising
rising_at [] h = refl
rising_at (x ∷ []) h = refl
rising_at (x ∷ (y ∷ xs)) h = both_true (lt-ltb x y (h 0 (omega arith))) (rising_at (y ∷ xs) (λ k l. h (suc k) (omega arith)))

rising_not : (xs : List ℕ) (k : ℕ) → suc k < length xs → at xs (suc k) ≤ at xs k → rising xs ≡ false
unfolding rising
rising_not [] k l h = absurd (omega arith)
rising_not (x ∷ []) k l h = absurd (omega arith)
rising_not (x ∷ (y ∷ xs)) zero l h = rw (le-ltb x y h)
rising_not (x ∷ (y ∷ xs)) (suc k) l h = rw (rising_not (y ∷ xs) k (omega arith) h) (both_none (ltb x y))

-- ---- the first i numbers are in range and rise; `last` is the one before place i, or 0

pub record Risen (us : List ℕ) (last i : ℕ) : Type 0 where
  pub before : last ≡ at (0 ∷ us) i
  pub each : (k : ℕ) → k < i → (at (0 ∷ us) k < at us k) × (at us k ≤ LAST_NUMBER)

module _ (us : List ℕ) where
  module _ {last i : ℕ} (r : Risen us last i) where
    pub risen_all : i ≡ length us → true ≡ both (every is_number us) (rising us)
    risen_all e =
        sym (both_true
        (at_every is_number 0 us (λ k l. let h = r.each k (omega arith) in both_true (le-leb 1 (at us k) (omega (arith, h.0))) (le-leb (at us k) LAST_NUMBER h.1)))
        (rising_at us (λ k l. (r.each (suc k) (omega arith)).0)))

    pub risen_stop : i < length us → at us i ≤ last → false ≡ both (every is_number us) (rising us)
    risen_stop l h = go i l r.before h
      where
        go : (k : ℕ) → k < length us → last ≡ at (0 ∷ us) k → at us k ≤ last → false ≡ both (every is_number us) (rising us)
        go zero l e h =
            let zero-first : is_number (at us 0) ≡ false = rw (lt-leb 1 (at us 0) (omega arith)) in
            sym (ap (λ b. both b (rising us)) (one_fails is_number 0 us 0 l zero-first))
        go (suc k) l e h = sym (ap (both (every is_number us)) (rising_not us k l (omega arith)) ∙ both_none (every is_number us))
