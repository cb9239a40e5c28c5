-- What proration promises, for any number of parties. Assumes nothing.
use Rattle.std.specs.Prelude.{◌≡◌, List, ◌⊎◌, ℕ, ◌+◌, ◌*◌, ◌/◌, ◌%◌, ◌≤◌, ◌<◌, ℤ, pos, nat_abs, ◌-ℤ◌, ◌*ℤ◌, length}
use Rattle.numbers.specs.Sums.{at, atZ, total, totalZ}
use Rattle.numbers.specs.Amounts.{is_negative, signed}
use Rattle.proration.specs.Proration.{counted, prorateZ}

-- s is less than one unit from the exact a × w / W
pub record Near (a W w s : ℕ) : Type 0 where
  pub above : W * s < a * w + W
  pub below : a * w < W * s + W

-- The shares of the amount z over the weights ws, for parties whose keys are distinct. "a share's exact proportion is A × w_i / W":
-- a share is less than 1 from it where W × share is less than W from A × w_i.
pub record Fair (z : ℤ) (ws ks : List ℕ) : Type 0 where
  -- one share for each party, and they add up to the amount
  pub parties : length (prorateZ z ws ks) ≡ length ws
  pub adds_up : totalZ (prorateZ z ws ks) ≡ z
  -- each is less than 1 from its exact proportion
  pub near : (i : ℕ) → i < length ws
      → nat_abs (pos (total (counted ws)) *ℤ atZ (prorateZ z ws ks) i -ℤ z *ℤ pos (at (counted ws) i)) < total (counted ws)
  -- each is 0 or has the amount's sign, and is at most the amount in size
  pub sign : (i : ℕ) → i < length ws
      → (atZ (prorateZ z ws ks) i ≡ pos 0) ⊎ (is_negative (atZ (prorateZ z ws ks) i) ≡ is_negative z)
  pub size : (i : ℕ) → i < length ws → nat_abs (atZ (prorateZ z ws ks) i) ≤ nat_abs z
  -- a weight of 0 gets 0, unless all weights are 0
  pub nothing : 0 < total ws → (i : ℕ) → i < length ws → at ws i ≡ 0 → atZ (prorateZ z ws ks) i ≡ pos 0
  -- of an amount no larger than the weights' sum, no party gets more than its weight
  pub capped : nat_abs z ≤ total ws → (i : ℕ) → i < length ws → nat_abs (atZ (prorateZ z ws ks) i) ≤ at ws i

-- ---- the only split of its kind

-- "the floor of A × w_i / W", with the amount's size and the weights that count
abbrev pub floor_of : ℤ → List ℕ → ℕ → ℕ
floor_of z ws i = nat_abs z * at (counted ws) i / total (counted ws)

-- its remainder
abbrev pub rem_of : ℤ → List ℕ → ℕ → ℕ
rem_of z ws i = nat_abs z * at (counted ws) i % total (counted ws)

-- party i comes before party j: its remainder is larger, or equal with "the lower user or kind number, or the earlier day"
abbrev pub Precedes : ℤ → List ℕ → List ℕ → ℕ → ℕ → Type 0
Precedes z ws ks i j = (rem_of z ws j < rem_of z ws i) ⊎ ((rem_of z ws i ≡ rem_of z ws j) × (at ks i < at ks j))

-- party i's share in ss has one of the "units left over"
abbrev pub GetsUnit : ℤ → List ℕ → List ℤ → ℕ → Type 0
GetsUnit z ws ss i = nat_abs (atZ ss i) ≡ floor_of z ws i + 1

-- The shares ss split the amount z over the weights ws by largest remainder, for parties with the keys ks.
-- With distinct keys, one for each party, proration gives such shares, and there are no others.
pub record LargestRemainder (z : ℤ) (ws ks : List ℕ) (ss : List ℤ) : Type 0 where
  -- one share for each party, and they add up to the amount
  pub parties : length ss ≡ length ws
  pub adds_up : totalZ ss ≡ z
  -- each has its size and the amount's sign
  pub sign : (i : ℕ) → i < length ws → atZ ss i ≡ signed (is_negative z) (nat_abs (atZ ss i))
  -- and its size is the floor, or the floor and one unit
  pub units : (i : ℕ) → i < length ws → (nat_abs (atZ ss i) ≡ floor_of z ws i) ⊎ GetsUnit z ws ss i
  -- no party goes without a unit if a party that it precedes gets one
  pub in_order : (i j : ℕ) → i < length ws → j < length ws → Precedes z ws ks i j → GetsUnit z ws ss j → GetsUnit z ws ss i
