-- Signed amounts: size, sign, ranges. Assumes nothing.
use Rattle.std.specs.Prelude.{Bool, true, false, ◌≡◌, ℕ, ◌≤◌, ℤ, pos, negsuc, neg_ℤ, nat_abs}
use Rattle.std.specs.Int.Signed.{lt_z}

-- amounts of up to this size add and subtract within 64 bits
abbrev pub SAFE : ℕ
SAFE = 4611686018427387903

-- the size of z is at most m
pub record Within (m : ℕ) (z : ℤ) : Type 0 where
  pub size : nat_abs z ≤ m

-- below 0
abbrev pub is_negative : ℤ → Bool
is_negative (pos n) = false
is_negative (negsuc n) = true

-- the size n with the sign: below 0 if the test holds
abbrev pub signed : Bool → ℕ → ℤ
signed true n = neg_ℤ (pos n)
signed false n = pos n

-- z lies in low .. high
pub record Between (low high z : ℤ) : Type 0 where
  pub above : lt_z z low ≡ false
  pub below : lt_z high z ≡ false

-- the answer r of a test decides P
pub record Decides (r : Bool) (P : Type 0) : Type 0 where
  pub yes : r ≡ true → P
  pub no : r ≡ false → P → ⊥
