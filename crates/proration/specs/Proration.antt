-- Document 01, section "Proration": an integer split over weights by largest remainder. Assumes nothing.
use Rattle.std.specs.Prelude.{Bool, true, false, List, [], ◌∷◌, ◌≡◌, refl, ℕ, ◌+◌, ◌-◌, ◌*◌, ◌/◌, ◌%◌, ltb, eqb, ℤ, pos, neg_ℤ, nat_abs, length, replicate}
use Rattle.numbers.specs.Sums.{bit, pick, sum, table, at, total}
use Rattle.numbers.specs.Amounts.{is_negative, signed}

-- the most parties (days of a reading's period), the largest amount and the largest weight of any split in document 01
abbrev pub PARTIES : ℕ
PARTIES = 366

abbrev pub LARGEST_AMOUNT : ℕ
LARGEST_AMOUNT = 1000000000

abbrev pub LARGEST_WEIGHT : ℕ
LARGEST_WEIGHT = 2000000000

-- "equal remainders go to the lower user or kind number, or the earlier day": that number or day is a party's key.
-- The remainder r of key k is served before r' of key k'.
abbrev pub ahead : ℕ → ℕ → ℕ → ℕ → Bool
ahead r k r' k' = pick (ltb r' r) true (pick (eqb r r') (ltb k k') false)

-- "Party i first gets the floor of A × w_i / W"
abbrev pub floor : ℕ → ℕ → (ℕ → ℕ) → ℕ → ℕ
floor a W w i = a * w i / W

-- its remainder
abbrev pub rem : ℕ → ℕ → (ℕ → ℕ) → ℕ → ℕ
rem a W w i = a * w i % W

-- how many of n parties are served before the remainder x of key y
unfoldable pub before : (ℕ → ℕ) → (ℕ → ℕ) → ℕ → ℕ → ℕ → ℕ
before r k n x y = sum (λ j. bit (ahead (r j) (k j) x y)) n

-- and before party i
abbrev pub rank : (ℕ → ℕ) → (ℕ → ℕ) → ℕ → ℕ → ℕ
rank r k n i = before r k n (r i) (k i)

-- "The units left over"
unfoldable pub left : ℕ → ℕ → (ℕ → ℕ) → ℕ → ℕ
left a W w n = a - sum (floor a W w) n

-- s i, and one unit more if fewer than c parties are served before party i
abbrev pub topped : (ℕ → ℕ) → (ℕ → ℕ) → (ℕ → ℕ) → ℕ → ℕ → ℕ → ℕ
topped s r k c n i = s i + bit (ltb (rank r k n i) c)

-- "go one each to the largest remainders": party i's share
unfoldable pub share : ℕ → ℕ → (ℕ → ℕ) → (ℕ → ℕ) → ℕ → ℕ → ℕ
share a W w k n = topped (floor a W w) (rem a W w) k (left a W w n) n

-- the shares of a over weights whose sum is above 0
unfoldable pub split : ℕ → List ℕ → List ℕ → List ℕ
split a ws ks = table (share a (total ws) (at ws) (at ks) (length ws)) (length ws)

-- "If all weights are zero, each counts as 1": the weights that count
unfoldable pub counted : List ℕ → List ℕ
counted ws = pick (eqb (total ws) 0) (replicate (length ws) 1) ws

unfoldable pub prorate : ℕ → List ℕ → List ℕ → List ℕ
prorate a ws ks = split a (counted ws) ks

-- "A negative amount is split by its size and the sign put back"
unfoldable pub prorateZ : ℤ → List ℕ → List ℕ → List ℤ
prorateZ z ws ks = table (λ i. signed (is_negative z) (at (prorate (nat_abs z) ws ks) i)) (length ws)

-- example P2
p2 : prorateZ (neg_ℤ (pos 10)) (1 ∷ 1 ∷ 1 ∷ []) (1 ∷ 2 ∷ 3 ∷ []) ≡ neg_ℤ (pos 4) ∷ neg_ℤ (pos 3) ∷ neg_ℤ (pos 3) ∷ []
unfolding prorateZ prorate counted split share left before sum table total
p2 = refl

-- zero weights, and ties by key where the keys are not in order
by_key : prorate 11 (0 ∷ 0 ∷ 0 ∷ []) (7 ∷ 5 ∷ 2 ∷ []) ≡ 3 ∷ 4 ∷ 4 ∷ []
unfolding prorate counted split share left before sum table total
by_key = refl

large : prorate 100000 (30 ∷ 0 ∷ 17 ∷ 2000000000 ∷ 999999999 ∷ 123456789 ∷ []) (1 ∷ 2 ∷ 3 ∷ 4 ∷ 5 ∷ 6 ∷ []) ≡ 0 ∷ 0 ∷ 0 ∷ 64032 ∷ 32016 ∷ 3952 ∷ []
unfolding prorate counted split share left before sum table total
large = refl
