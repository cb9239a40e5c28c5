-- What the test of a point-day finds. Assumes nothing. No exported contract leans on it.
use Rattle.std.specs.Prelude.{Option, None, Some as Just, Result, Ok, Err, OnErr, Bool, true, false, not, List, ◌++◌, ◌≡◌, ℕ, ◌*◌, ◌≤◌, ◌<◌, ℤ, pos, nat_abs, ◌+ℤ◌, length, take, drop, get_or}
use Rattle.std.specs.Int.Signed.{le_z}
use Rattle.numbers.specs.Sums.{sumZ, table, atZ}
use Rattle.numbers.specs.Lists.{every, has, distinct}
use Rattle.numbers.specs.Amounts.{Between}
use Rattle.point_day.specs.Limits.{USERS, KINDS, LIMIT, AMOUNT}
use Rattle.point_day.specs.Day.{all_whole, is_measured, no_more, measurement_right}
use Rattle.point_day.specs.Struct.{Sized, read, taken}
use Rattle.point_day.specs.declared.Measurement.{Measurement}
use Rattle.point_day.specs.declared.PointDay.{PointDay}
use Rattle.state.specs.Places.{From, LowSlot, SizedSlot, offtake_at, balance_at, whole_at}
use Rattle.numbers.specs.declared.Refusal.{Refusal}
use Rattle.numbers.specs.declared.Refusal.TheVariants.{OutOfRange}
use Rattle.taken.specs.declared.State.{State}

-- s is what the test of the taken point-day d found: all that d holds but its amounts, and its users' whole amounts with their sum
pub record Known (d : PointDay) (s : State) : Type 0 where
  pub sized : Sized d
  pub is_taken : taken d ≡ true
  pub stage : d.stage ≡ s.stage
  pub allotted : d.allotted ≡ s.allotted
  pub measurement : d.measurement ≡ s.measurement
  pub count : d.count ≡ s.count
  pub users : d.users ≡ s.users
  pub wholes : take d.count s.wholes ≡ table (whole_at d.consumption d.losses d.balance d.revision) d.count
  pub sum : s.sum ≡ all_whole (read d).users

-- the test of the point-day d: what it found, or refusal 2 if d is not taken
abbrev pub StateOf : PointDay → Result State Refusal → Type 0
StateOf d (Ok s) = Known d s
StateOf d (Err r) = (taken d ≡ false) × (r ≡ OutOfRange)

-- what the tests of a call find of a taken point-day of which s is the test: P of it
abbrev pub Finds : State → (PointDay → Type 0) → Type 0
Finds s P = (d : PointDay) → Known d s → P d

-- what the tests of a call find of a point-day of which t is the test: P of it; if it is not taken, Q
pub record FindsOf (t : Result State Refusal) (Q : Type 0) (P : PointDay → Type 0) : Type 0 where
  pub none : OnErr t Q
  pub of : (d : PointDay) → StateOf d t → P d

-- there is a point-day of which P holds
pub record Some (P : PointDay → Type 0) : Type 0 where
  pub day : PointDay
  pub holds : P day

-- z is the sum of n whole amounts f, and the column that held `before` starts with them
pub record Column (f : ℕ → ℤ) (n : ℕ) (before : List ℤ) (z : ℤ) (after : List ℤ) : Type 0 where
  pub sum : z ≡ sumZ f n
  pub wholes : after ≡ table f n ++ drop n before

-- a test that finds a sum if P holds, and the column with it; else nothing
abbrev pub Found : Type 0 → (ℕ → ℤ) → ℕ → List ℤ → Option ℤ → List ℤ → Type 0
Found P f n before None after = P → ⊥
Found P f n before (Just z) after = P × Column f n before z after

-- the test of the parts of d: if it is taken, the sum of its whole amounts, and the column that held `before` starts with them
abbrev pub TestedParts : PointDay → List ℤ → Option ℤ → List ℤ → Type 0
TestedParts d before None after = taken d ≡ false
TestedParts d before (Just z) after = (taken d ≡ true) × (z ≡ all_whole (read d).users) × (after ≡ table (whole_at d.consumption d.losses d.balance d.revision) d.count ++ drop d.count before)

-- number of users, user numbers and measurement
pub record Head (m : Option Measurement) (n : ℕ) (us : List ℕ) : Type 0 where
  pub few : n ≤ USERS
  pub past : (i : ℕ) → n ≤ i → i < length us → get_or us i 0 ≡ 0
  pub named : has 0 (take n us) ≡ false
  pub apart : distinct (take n us) ≡ true
  pub measurement : measurement_right m ≡ true

-- consumption and losses of n users, and their sum
pub record Offtakes (n : ℕ) (cs ls : List ℤ) : Type 0 where
  pub low : (s : ℕ) → s < n → LowSlot cs ls s
  pub limit : le_z (sumZ (offtake_at cs ls) n) (pos LIMIT) ≡ true

-- while entering: neither balance nor revision, and nothing past the last user
pub record Entering (n : ℕ) (cs ls bs rs : List ℤ) : Type 0 where
  pub balance : From 0 (pos 0) (pos 0) bs
  pub revision : From 0 (pos 0) (pos 0) rs
  pub consumption : From (KINDS * n) (pos 0) (pos 0) cs
  pub losses : From (KINDS * n) (pos 0) (pos 0) ls
  pub offtakes : Offtakes n cs ls

-- each of n whole amounts, and their sum
pub record Wholes (n : ℕ) (f : ℕ → ℤ) : Type 0 where
  pub each : (s : ℕ) → s < n → nat_abs (f s) ≤ AMOUNT
  pub sum : Between (pos 0) (pos LIMIT) (sumZ f n)

-- slot s of the column ws, with balances and revision added
abbrev pub added_at : List ℤ → List ℤ → List ℤ → ℕ → ℤ
added_at ws bs rs s = atZ ws s +ℤ balance_at bs rs s

-- balances and revisions of n users, and the column ws with them added
pub record Balances (n : ℕ) (ws bs rs : List ℤ) : Type 0 where
  pub sizes : (s : ℕ) → s < n → SizedSlot bs rs s
  pub wholes : Wholes n (added_at ws bs rs)

-- nothing past the last of n users
pub record Ended (n : ℕ) (cs ls bs rs : List ℤ) : Type 0 where
  pub consumption : From (KINDS * n) (pos 0) (pos 0) cs
  pub losses : From (KINDS * n) (pos 0) (pos 0) ls
  pub balance : From (KINDS * n) (pos 0) (pos 0) bs
  pub revision : From n (pos 0) (pos 0) rs

-- once allotted: with user and measurement
pub record Allotted (m : Option Measurement) (n : ℕ) (cs ls bs rs : List ℤ) : Type 0 where
  pub users : n ≡ 0 → ⊥
  pub measured : is_measured m ≡ true
  pub past : Ended n cs ls bs rs
  pub offtakes : Offtakes n cs ls
  pub sizes : (s : ℕ) → s < n → SizedSlot bs rs s
  pub wholes : Wholes n (whole_at cs ls bs rs)

-- refusal 12, on a column of whole amounts
abbrev pub any_large : List ℤ → Bool
any_large ws = not (every (no_more AMOUNT) ws)
