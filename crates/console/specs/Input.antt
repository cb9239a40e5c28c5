-- What a program reads from its input: numbers one after the other, little-endian; what is cut short or has no meaning is malformed.
-- Assumes nothing. No exported contract leans on it.
use Rattle.std.specs.Prelude.{List, [], ◌∷◌, ◌≡◌, refl, ℕ, ◌-◌, ◌*◌, ◌≤◌, ℤ, negsuc, length, drop}
use Rattle.numbers.specs.Sums.{table}

-- the numbers of n bytes each that k of them spell, one after the other; `spelled` says what the first bytes of a list spell
unfoldable pub spelled_in : {A : Type 0} → ℕ → (List ℕ → A) → List ℕ → ℕ → List A
spelled_in n spelled s k = table (λ i. spelled (drop (n * i) s)) k

-- what is left after reading is the end of what was there before, and no more
abbrev pub Onward : List ℕ → List ℕ → Type 0
Onward before after = (length after ≤ length before) × (after ≡ drop (length before - length after) before)

-- the most numbers of a buffer that a program lends to a call, and what a buffer of n numbers holds before the call
abbrev pub MOST_LENT : ℕ
MOST_LENT = 2000

unfoldable pub lent : ℕ → List ℤ
lent n = table negsuc n

-- −1, −2, −3
three_lent : lent 3 ≡ negsuc 0 ∷ negsuc 1 ∷ negsuc 2 ∷ []
unfolding lent table
three_lent = refl
