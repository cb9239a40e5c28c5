-- What the calls look at, place by place. Assumes nothing. No exported contract leans on it.
use Rattle.std.specs.Prelude.{Option, None, Some, true, false, List, ◌≡◌, ℕ, ◌+◌, ◌*◌, ◌≤◌, ◌<◌, ℤ, pos, nat_abs, ◌+ℤ◌, length, get_or, set}
use Rattle.numbers.specs.Sums.{sumZ, atZ}
use Rattle.numbers.specs.Lists.{has}
use Rattle.numbers.specs.Amounts.{Within, Between}
use Rattle.point_day.specs.Limits.{KINDS, USERS, CELLS, AMOUNT}
use Rattle.point_day.specs.Struct.{none_below}
use Rattle.point_day.specs.declared.PointDay.{PointDay}

-- the slot of user n, if it stands among these
abbrev pub SlotOf : ℕ → List ℕ → Option ℕ → Type 0
SlotOf n users None = has n users ≡ false
SlotOf n users (Some s) = (s < length users) × (get_or users s 0 ≡ n)

-- every amount from place n on lies in low .. high
abbrev pub From : ℕ → ℤ → ℤ → List ℤ → Type 0
From n low high xs = (i : ℕ) → n ≤ i → i < length xs → Between low high (atZ xs i)

-- amounts of which a whole amount, and the sum of 64 of them, fit well into 64 bits
abbrev pub ROOM : ℕ
ROOM = 10000000000

abbrev pub Small : List ℤ → Type 0
Small xs = (i : ℕ) → Within ROOM (atZ xs i)

-- 2^33 - 1: amounts from 0 to it are small, and all of them are if their bits together are
abbrev pub LOW : ℕ
LOW = 8589934591

-- consumption and losses of slot s lie in 0 .. LOW
abbrev pub LowSlot : List ℤ → List ℤ → ℕ → Type 0
LowSlot cs ls s = (k : ℕ) → 0 ≤ k → k < KINDS → Between (pos 0) (pos LOW) (atZ cs (KINDS * s + k)) × Between (pos 0) (pos LOW) (atZ ls (KINDS * s + k))

-- balances and revision of slot s are at most AMOUNT in size
pub record SizedSlot (bs rs : List ℤ) (s : ℕ) : Type 0 where
  pub balance : (k : ℕ) → 0 ≤ k → k < KINDS → nat_abs (atZ bs (KINDS * s + k)) ≤ AMOUNT
  pub revision : nat_abs (atZ rs s) ≤ AMOUNT

-- lists as long as a point-day's arrays
pub record Lengths (cs ls bs rs : List ℤ) : Type 0 where
  pub consumption : length cs ≡ CELLS
  pub losses : length ls ≡ CELLS
  pub balance : length bs ≡ CELLS
  pub revision : length rs ≡ USERS

-- a point-day whose whole amounts can be summed
pub record Summable (d : PointDay) : Type 0 where
  pub few : d.count ≤ USERS
  pub consumption : Small d.consumption
  pub losses : Small d.losses
  pub balance : Small d.balance
  pub revision : Small d.revision
  pub above : none_below d.consumption ≡ true
  pub above_losses : none_below d.losses ≡ true

-- consumption, losses and balance of a cell
abbrev pub cellZ : List ℤ → List ℤ → List ℤ → ℕ → ℤ
cellZ cs ls bs i = (atZ cs i +ℤ atZ ls i) +ℤ atZ bs i

-- consumption and losses of slot s
abbrev pub offtake_at : List ℤ → List ℤ → ℕ → ℤ
offtake_at cs ls s = sumZ (λ k. atZ cs (KINDS * s + k) +ℤ atZ ls (KINDS * s + k)) KINDS

-- balances and revision of slot s
abbrev pub balance_at : List ℤ → List ℤ → ℕ → ℤ
balance_at bs rs s = sumZ (λ k. atZ bs (KINDS * s + k)) KINDS +ℤ atZ rs s

-- the whole amount of slot s
abbrev pub whole_at : List ℤ → List ℤ → List ℤ → List ℤ → ℕ → ℤ
whole_at cs ls bs rs s = sumZ (λ k. cellZ cs ls bs (KINDS * s + k)) KINDS +ℤ atZ rs s

-- x more at place i
abbrev pub more : ℕ → ℕ → List ℤ → List ℤ
more i x xs = set xs i (atZ xs i +ℤ pos x)
