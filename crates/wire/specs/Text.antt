-- Numbers as decimal text, and text put into a buffer. Assumes nothing.
use Rattle.std.specs.Prelude.{List, [], ◌∷◌, ◌++◌, ◌≡◌, refl, ℕ, zero, suc, ◌+◌, ◌-◌, ◌/◌, ◌%◌, ltb, ℤ, pos, negsuc, length, take, drop}
use Rattle.numbers.specs.Sums.{pick}

-- a digit's character
abbrev pub digit : ℕ → ℕ
digit d = 48 + d

-- the decimal digits of n, of which there are at most k + 1
unfoldable pub digits_of : ℕ → ℕ → List ℕ
digits_of zero n = digit n ∷ []
digits_of (suc k) n = pick (ltb n 10) (digit n ∷ []) (digits_of k (n / 10) ++ (digit (n % 10) ∷ []))

-- a number of 64 bits, which has at most 20 digits, without leading zeros
abbrev pub MOST_DIGITS : ℕ
MOST_DIGITS = 20

unfoldable pub natural : ℕ → List ℕ
natural n = digits_of (MOST_DIGITS - 1) n

-- with a leading `-` where negative
unfoldable pub decimal : ℤ → List ℕ
decimal (pos n) = natural n
decimal (negsuc n) = 45 ∷ natural (suc n)

-- the buffer d with the text s from place i on; what lies before and after stays
abbrev pub written : List ℕ → ℕ → List ℕ → List ℕ
written d i s = take i d ++ s ++ drop (i + length s) d

-- text s is put at the end, which is place i
abbrev pub Added : List ℕ → ℕ → List ℕ → List ℕ → ℕ → Type 0
Added d i s d' i' = (d' ≡ written d i s) × (i' ≡ i + length s)

zero_text : decimal (pos 0) ≡ 48 ∷ []
unfolding decimal natural digits_of
zero_text = refl

minus_text : decimal (negsuc 1040) ≡ 45 ∷ 49 ∷ 48 ∷ 52 ∷ 49 ∷ []
unfolding decimal natural digits_of
minus_text = refl

large_text : natural 2000000000 ≡ 50 ∷ 48 ∷ 48 ∷ 48 ∷ 48 ∷ 48 ∷ 48 ∷ 48 ∷ 48 ∷ 48 ∷ []
unfolding natural digits_of
large_text = refl
