-- Sums and tables of functions and of lists, over ℕ and ℤ. Assumes nothing.
use Rattle.std.specs.Prelude.{Bool, true, false, List, [], ◌∷◌, ◌++◌, ℕ, zero, suc, ◌+◌, ◌≤◌, ℤ, pos, ◌+ℤ◌, get_or}

-- a test as a number
abbrev pub bit : Bool → ℕ
bit true = 1
bit false = 0

-- a if the test holds, else b
abbrev pub pick {ℓ} : {A : Type ℓ} → Bool → A → A → A
pick true a b = a
pick false a b = b

-- f 0 + .. + f (n - 1)
unfoldable pub sum : (ℕ → ℕ) → ℕ → ℕ
sum f zero = 0
sum f (suc n) = sum f n + f n

unfoldable pub sumZ : (ℕ → ℤ) → ℕ → ℤ
sumZ f zero = pos 0
sumZ f (suc n) = sumZ f n +ℤ f n

-- the list f 0 , .. , f (n - 1)
unfoldable pub table : {A : Type 0} → (ℕ → A) → ℕ → List A
table f zero = []
table f (suc n) = table f n ++ (f n ∷ [])

-- the i-th element, 0 past the end
abbrev pub at : List ℕ → ℕ → ℕ
at xs i = get_or xs i 0

abbrev pub atZ : List ℤ → ℕ → ℤ
atZ xs i = get_or xs i (pos 0)

-- the sum of a list
unfoldable pub total : List ℕ → ℕ
total [] = 0
total (x ∷ xs) = x + total xs

unfoldable pub totalZ : List ℤ → ℤ
totalZ [] = pos 0
totalZ (x ∷ xs) = x +ℤ totalZ xs

-- no element is above m
abbrev pub Bounded : ℕ → List ℕ → Type 0
Bounded m xs = (i : ℕ) → at xs i ≤ m
