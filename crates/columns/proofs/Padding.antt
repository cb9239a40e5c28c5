-- Columns padded with zeros: their length, their tests, and two of them added. Assumes nothing.
use mathlib.Core.Path.{◌≡◌, refl, sym, ap, ap₂, ◌∙◌}
use mathlib.Core.Bool.{Bool, true}
use mathlib.Core.List.{List, [], ◌∷◌, ◌++◌, zip_with}
use mathlib.Core.Logic.{⊎_elim}
use Prim.Native.Nat.{ℕ, zero, suc, ◌+◌, ◌-◌, ◌≤◌, ◌<◌}
use native.Mathlib.Omega.{arith}
use lib.IntN.{ℤ, pos, nat_abs, ◌+ℤ◌}
use lib.ListN.{length, drop, replicate, length-append, length-replicate, get_or-eq_default, replicate-append-replicate}
use lib.Seq.{ext_get_or}
use Rattle.numbers.specs.Sums.{table, atZ}
use Rattle.numbers.specs.Lists.{both, every}
use Rattle.numbers.specs.Amounts.{Within}
use Rattle.numbers.proofs.Sums.{lt_or_ge, length_table, getD_table}
use Rattle.numbers.proofs.Lists.{All, zip_length}
use Rattle.point_day.specs.Struct.{padded}
use Rattle.point_day.proofs.Each.{all_at, zip_at}

-- ---- tables

pub table_by : {A : Type 0} (f g : ℕ → A) (n : ℕ) → ((i : ℕ) → i < n → f i ≡ g i) → table f n ≡ table g n
unfolding table
table_by f g zero h = refl
table_by f g (suc n) h = ap₂ (λ t x. t ++ (x ∷ [])) (table_by f g n (λ i l. h i (omega arith))) (h n (omega arith))

-- ---- a column

module _ {A : Type 0} (x : A) (N : ℕ) where
  drop_same : (n k : ℕ) → drop n (replicate k x) ≡ replicate (k - n) x
  drop_same zero k = let e : k ≡ k - 0 = omega arith in ap (λ m. replicate m x) e
  drop_same (suc n) zero = let e : 0 ≡ 0 - suc n = omega arith in ap (λ m. replicate m x) e
  drop_same (suc n) (suc k) = let e : k - n ≡ suc k - suc n = omega arith in drop_same n k ∙ ap (λ m. replicate m x) e

  -- written over the start of one filled with x
  pub padded_over : (n : ℕ) (xs : List A) {d e : List A} → length xs ≡ n → d ≡ replicate N x → e ≡ xs ++ drop n d → e ≡ padded N x xs
  unfolding padded
  padded_over n xs l h k = k ∙ ap (λ t. xs ++ drop n t) h ∙ ap (λ t. xs ++ t) (drop_same n N ∙ ap (λ m. replicate (N - m) x) (sym l))

  pub padded_long : (xs : List A) → length xs ≤ N → length (padded N x xs) ≡ N
  unfolding padded
  padded_long xs l = length-append xs (replicate (N - length xs) x) ∙ omega (arith, length-replicate {A = A} (N - length xs) x)

  pub padded_every : (p : A → Bool) → p x ≡ true → (xs : List A) → every p (padded N x xs) ≡ every p xs
  unfolding padded every
  padded_every p e xs = go xs (N - length xs)
    where
      go : (xs : List A) (k : ℕ) → every p (xs ++ replicate k x) ≡ every p xs
      go [] zero = refl
      go [] (suc k) = rw e (go [] k)
      go (y ∷ xs) k = ap (both (p y)) (go xs k)

  pub padded_none : (n : ℕ) → n ≤ N → padded N x (replicate n x) ≡ replicate N x
  unfolding padded
  padded_none n l =
      let e : n + (N - n) ≡ N = omega arith in
      rw (length-replicate {A = A} n x) (replicate-append-replicate n (N - n) x ∙ ap (λ m. replicate m x) e)

-- ---- amounts

-- every place of a list, past its end too
pub all_within : (m : ℕ) (zs : List ℤ) → All (λ z. nat_abs z ≤ m) zs → (i : ℕ) → Within m (atZ zs i)
all_within m zs h i = record {
  size = ⊎_elim (λ l. all_at (λ z. nat_abs z ≤ m) (pos 0) zs h i l) (λ l. rw (get_or-eq_default zs (pos 0) {n = i} l) (omega arith)) (lt_or_ge i (length zs));
}

pub padded_within : (m N : ℕ) (zs : List ℤ) → All (λ z. nat_abs z ≤ m) zs → (i : ℕ) → Within m (atZ (padded N (pos 0) zs) i)
unfolding padded
padded_within m N zs h = all_within m (zs ++ replicate (N - length zs) (pos 0)) (go zs (N - length zs) h)
  where
    go : (zs : List ℤ) (k : ℕ) → All (λ z. nat_abs z ≤ m) zs → All (λ z. nat_abs z ≤ m) (zs ++ replicate k (pos 0))
    go [] zero h = tt
    go [] (suc k) h = (omega arith, go [] k h)
    go (z ∷ zs) k h = (h.0, go zs k h.1)

-- ---- two columns added

-- place by place, the second standing at the start of a buffer
pub zip_table : (xs ys zs : List ℤ) → length xs ≡ length ys → ((i : ℕ) → i < length xs → atZ zs i ≡ atZ ys i)
    → table (λ i. atZ xs i +ℤ atZ zs i) (length xs) ≡ zip_with ◌+ℤ◌ xs ys
zip_table xs ys zs l h =
    ext_get_or (pos 0) _ (zip_with ◌+ℤ◌ xs ys) (length_table _ (length xs) ∙ sym (zip_length ◌+ℤ◌ xs ys l))
    (λ i k.
    let q : i < length xs = omega (arith, length_table (λ i. atZ xs i +ℤ atZ zs i) (length xs)) in
    getD_table _ (length xs) i (pos 0) q ∙ ap (λ z. atZ xs i +ℤ z) (h i q) ∙ sym (zip_at ◌+ℤ◌ (pos 0) (pos 0) (pos 0) xs ys l i q))

pub zip_padded : (N : ℕ) (xs ys : List ℤ) → length xs ≡ length ys → zip_with ◌+ℤ◌ (padded N (pos 0) xs) (padded N (pos 0) ys) ≡ padded N (pos 0) (zip_with ◌+ℤ◌ xs ys)
unfolding padded zip_with
zip_padded N xs ys e =
    ap (λ n. zip_with ◌+ℤ◌ (xs ++ replicate (N - length xs) (pos 0)) (ys ++ replicate (N - n) (pos 0))) (sym e)
    ∙ go xs ys e (N - length xs)
    ∙ ap (λ n. zip_with ◌+ℤ◌ xs ys ++ replicate (N - n) (pos 0)) (sym (zip_length ◌+ℤ◌ xs ys e))
  where
    zeros : (k : ℕ) → zip_with ◌+ℤ◌ (replicate k (pos 0)) (replicate k (pos 0)) ≡ replicate k (pos 0)
    zeros zero = refl
    zeros (suc k) = ap (λ t. pos 0 ∷ t) (zeros k)

    go : (xs ys : List ℤ) → length xs ≡ length ys → (k : ℕ) → zip_with ◌+ℤ◌ (xs ++ replicate k (pos 0)) (ys ++ replicate k (pos 0)) ≡ zip_with ◌+ℤ◌ xs ys ++ replicate k (pos 0)
    go [] [] e k = zeros k
    go [] (y ∷ ys) e k = absurd (omega arith)
    go (x ∷ xs) [] e k = absurd (omega arith)
    go (x ∷ xs) (y ∷ ys) e k = ap (λ t. (x +ℤ y) ∷ t) (go xs ys (omega arith) k)
