-- Text in a buffer, and the digits of a number. Assumes nothing.
use Rattle.std.proofs.Common.{◌≡◌, refl, sym, ap, ap₂, ◌∙◌, List, [], ◌∷◌, ◌++◌, ℕ, zero, suc, ◌+◌, ◌-◌, ◌/◌, ◌%◌, ◌^◌, ◌≤◌, ◌<◌, ℤ, pos, negsuc, length, take, drop, arith, lit≤}
use Rattle.std.specs.Fmt.{decimal as std_decimal, signed_decimal}
use Rattle.std.proofs.lemmas.Fmt.{decimal_by_steps, length-decimal-le}
use mathlib.Core.List.{append_assoc}
use lib.ListN.{length-append, length-drop}
use lib.Seq.{length-take-le, take_at, drop-append-add, drop-drop}
use lib.Signed.{mag}
use borrow.Author.Tests.{lt-ltb, le-ltb}
use Rattle.wire.specs.Text.{digits_of, natural, decimal, written, MOST_DIGITS}

-- ---- text after text

module _ (d : List ℕ) (i : ℕ) (s : List ℕ) (room : i + length s ≤ length d) where
  front : length (take i d ++ s) ≡ i + length s
  front = length-append (take i d) s ∙ ap (λ k. k + length s) (length-take-le i d (omega arith))

  pub written_length : length (written d i s) ≡ length d
  written_length =
      length-append (take i d ++ s) (drop (i + length s) d) ∙ ap₂ ◌+◌ front (length-drop (i + length s) d) ∙ omega arith

  pub written_more : (t : List ℕ) → i + length s + length t ≤ length d → written (written d i s) (i + length s) t ≡ written d i (s ++ t)
  written_more t l =
      let n = length t in
      let e : i + length (s ++ t) ≡ i + length s + n = ap (λ k. i + k) (length-append s t) ∙ omega arith in
      ap₂ (λ x y. x ++ t ++ y) (take_at (take i d ++ s) (drop (i + length s) d) (i + length s) front)
      (ap (λ k. drop k (written d i s)) (ap (λ k. k + n) (sym front)) ∙ drop-append-add (take i d ++ s) (drop (i + length s) d) n ∙ drop-drop n (i + length s) d)
      ∙ ap₂ (λ x k. x ++ drop k d) (append_assoc (take i d) s t) (sym e)

-- ---- a number's text is the library's

one_digit : (k n : ℕ) → n < 10 → digits_of k n ≡ (48 + n) ∷ []
unfolding digits_of
one_digit zero n l = refl
one_digit (suc k) n l = rw (lt-ltb n 10 l)

more_digits : (k n : ℕ) → 10 ≤ n → digits_of (suc k) n ≡ digits_of k (n / 10) ++ ((48 + n % 10) ∷ [])
unfolding digits_of
more_digits k n l = rw (le-ltb n 10 l)

-- some text that needs no more than k + 1 digits is what they write
Writes : ℕ → List ℕ → Type 0
Writes n ds = (0 < length ds) × ((k : ℕ) → length ds ≤ suc k → digits_of k n ≡ ds)

natural_is : (n : ℕ) → n < 2 ^ 64 → natural n ≡ std_decimal n
unfolding natural Writes
natural_is n l =
    (decimal_by_steps Writes (λ n h. (omega arith, λ k m. one_digit k n h)) (λ n ds h w. (omega (arith, length-append ds ((48 + n % 10) ∷ [])), more n ds h w)) n l).1
    (MOST_DIGITS - 1) (length-decimal-le MOST_DIGITS n (omega arith) (omega (arith, many)) l)
  where
    many : 2 ^ 64 ≤ 10 ^ 20
    many = lit≤ tt

    more : (n : ℕ) (ds : List ℕ) → 10 ≤ n → Writes (n / 10) ds → (k : ℕ) → length (ds ++ ((48 + n % 10) ∷ [])) ≤ suc k → digits_of k n ≡ ds ++ ((48 + n % 10) ∷ [])
    more n ds h w zero m = absurd (omega (arith, w.0, length-append ds ((48 + n % 10) ∷ [])))
    more n ds h w (suc k) m = more_digits k n h ∙ ap (λ t. t ++ ((48 + n % 10) ∷ [])) (w.1 k (omega (arith, length-append ds ((48 + n % 10) ∷ []))))

pub decimal_is : (x : ℤ) → mag x < 2 ^ 63 → decimal x ≡ signed_decimal x
unfolding decimal
decimal_is (pos n) l = natural_is n (omega arith)
decimal_is (negsuc n) l = ap (λ t. 45 ∷ t) (natural_is (suc n) (omega arith))
