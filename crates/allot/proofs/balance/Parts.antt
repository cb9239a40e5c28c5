-- The invariant of a loop that fills a buffer part by part, five cells each. Assumes nothing.
use mathlib.Core.Path.{◌≡◌, refl, sym, ap, ap₂, ◌∙◌}
use mathlib.Core.List.{List, ◌++◌, append_assoc}
use Prim.Native.Nat.{ℕ, zero, suc, ◌+◌, ◌*◌, ◌≤◌, ◌<◌}
use native.Mathlib.Omega.{arith}
use native.Mathlib.Numerals.{add-one}
use lib.ListN.{length, take, drop, length-append, length-drop}
use lib.Seq.{take_at, drop_at, drop-drop}
use Rattle.numbers.specs.Sums.{table}
use Rattle.numbers.specs.Lists.{flat}
use Rattle.point_day.specs.Limits.{KINDS}
use Rattle.point_day.proofs.Back.{flat_snoc}

-- d is d₀ with its first i parts replaced by f 0 , .. , f (i - 1)
pub record Parts {A : Type 0} (f : ℕ → List A) (d₀ : List A) (i : ℕ) (d : List A) : Type 0 where
  pub is : d ≡ flat (table f i) ++ drop (KINDS * i) d₀
  pub long : length d ≡ length d₀

module _ {A : Type 0} (f : ℕ → List A) (n : ℕ) (five : (i : ℕ) → i < n → length (f i) ≡ KINDS) where
  pub flat_long : (i : ℕ) → i ≤ n → length (flat (table f i)) ≡ KINDS * i
  unfolding table flat
  flat_long zero l = refl
  flat_long (suc i) l =
      ap length (flat_snoc (table f i) (f i))
      ∙ length-append (flat (table f i)) (f i)
      ∙ omega (arith, flat_long i (omega arith), five i (omega arith))

  module _ (d₀ : List A) where
    pub parts_none : Parts f d₀ 0 d₀
    unfolding table flat
    parts_none = record { is = refl; long = refl }

    flat_more : (i : ℕ) → flat (table f i) ++ f i ≡ flat (table f (i + 1))
    unfolding table
    flat_more i = rw add-one (sym (flat_snoc (table f i) (f i)))

    rest : (i : ℕ) → i < n → drop KINDS (drop (KINDS * i) (flat (table f i) ++ drop (KINDS * i) d₀)) ≡ drop (KINDS * (i + 1)) d₀
    rest i l =
        let m : KINDS * i + KINDS ≡ KINDS * (i + 1) = omega arith in
        ap (drop KINDS) (drop_at (flat (table f i)) (drop (KINDS * i) d₀) (KINDS * i) (flat_long i (omega arith)))
        ∙ drop-drop KINDS (KINDS * i) d₀
        ∙ ap (λ k. drop k d₀) m

    -- one part more
    pub parts_step : {d : List A} {i : ℕ} → Parts f d₀ i d → i < n → KINDS * n ≤ length d₀ → {k : ℕ} → k ≡ KINDS → {x : List A} → x ≡ f i
        → Parts f d₀ (i + 1) (take (KINDS * i) d ++ (x ++ drop k (drop (KINDS * i) d)))
    parts_step {d} {i} h l r {k} e {x} q =
        let is : take (KINDS * i) d ++ (x ++ drop k (drop (KINDS * i) d)) ≡ flat (table f (i + 1)) ++ drop (KINDS * (i + 1)) d₀ =
        ap₂ (λ t y. take (KINDS * i) t ++ (y ++ drop k (drop (KINDS * i) t))) h.is q
        ∙ ap (λ k. take (KINDS * i) (flat (table f i) ++ drop (KINDS * i) d₀) ++ (f i ++ drop k (drop (KINDS * i) (flat (table f i) ++ drop (KINDS * i) d₀)))) e
        ∙ ap₂ (λ t u. t ++ (f i ++ u)) (take_at (flat (table f i)) (drop (KINDS * i) d₀) (KINDS * i) (flat_long i (omega arith))) (rest i l)
        ∙ sym (append_assoc (flat (table f i)) (f i) (drop (KINDS * (i + 1)) d₀))
        ∙ ap (λ t. t ++ drop (KINDS * (i + 1)) d₀) (flat_more i) in
        record {
          is = is;
          long =
              ap length is
              ∙ length-append (flat (table f (i + 1))) (drop (KINDS * (i + 1)) d₀)
              ∙ omega (arith, flat_long (i + 1) (omega arith), length-drop (KINDS * (i + 1)) d₀);
        }
