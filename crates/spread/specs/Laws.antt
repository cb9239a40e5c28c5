-- What a spread that is not refused leaves in the buffer. Assumes nothing.
use Rattle.std.specs.Prelude.{false, List, map, ◌≡◌, ℕ, ◌<◌, ℤ, pos, nat_abs, ◌-ℤ◌, ◌*ℤ◌, length, take, drop}
use Rattle.numbers.specs.Sums.{at, atZ, total, totalZ}
use Rattle.numbers.specs.Amounts.{is_negative}
use Rattle.proration.specs.Proration.{counted}
use Rattle.spread.specs.Spread.{spread}

-- the weights that count: "If all weights are zero, each counts as 1"
abbrev pub counting : List ℤ → List ℕ
counting weights = counted (map nat_abs weights)

pub record SpreadLaws (reading : ℕ) (weights buffer : List ℤ) : Type 0 where
  -- the days add up to the reading
  pub adds_up : totalZ (take (length weights) (spread reading weights buffer).buffer) ≡ pos reading
  -- each day is less than 1 kWh from its exact proportion, reading × w_i / W
  pub near : (i : ℕ) → i < length weights
      → nat_abs (pos (total (counting weights)) *ℤ atZ (spread reading weights buffer).buffer i -ℤ pos reading *ℤ pos (at (counting weights) i)) < total (counting weights)
  -- none is negative
  pub none_below : (i : ℕ) → i < length weights → is_negative (atZ (spread reading weights buffer).buffer i) ≡ false
  -- the buffer's later numbers stay
  pub later : drop (length weights) (spread reading weights buffer).buffer ≡ drop (length weights) buffer
