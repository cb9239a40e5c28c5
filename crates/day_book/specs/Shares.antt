-- The shares that a call gave: each less than 1 kWh from its exact proportion, by the amounts and weights that the book has from the paper.
-- Assumes nothing.
use Rattle.std.specs.Prelude.{◌≡◌, Bool, true, false, List, map, ℕ, ◌<◌, eqb, ℤ, pos, nat_abs, ◌-ℤ◌, ◌*ℤ◌}
use Rattle.numbers.specs.Sums.{pick, total}
use Rattle.numbers.specs.Lists.{has}
use Rattle.point_day.specs.Day.{Pair}
use Rattle.point_day.specs.Answers.{Answer, refused, done, losses_added, rows_looked_at, within_tolerance, revision_assigned}
use Rattle.point_day.specs.declared.PointDay.{PointDay}
use Rattle.day_book.specs.Calls.{Call, join, line, lent_line, measure, allot, stand_in, revise, start_final}
use Rattle.day_book.specs.Run.{verdict_of, accepts}
use Rattle.day_book.specs.Book.{Book, kinds, net, whole, R, to_balance, user_weight, kind_weight, users_in, amounts_in, used_row}
use Rattle.day_book.specs.Book.{row_weight, some_negative}
use Rattle.day_book.specs.Arrays.{number_at, revision_at, balance_at, user_balance}

-- ---- "a share's exact proportion is A × w_i / W, zero weights as above"

-- "If all weights are zero, each counts as 1"
unfoldable pub counts : (ℕ → ℕ) → List ℕ → ℕ → ℕ
counts weight parties p = pick (eqb (total (map weight parties)) 0) 1 (weight p)

-- a share x is less than 1 kWh from A × w / W: W × x is less than W from A × w
abbrev pub LessThan1 : ℤ → ℕ → ℕ → ℤ → Type 0
LessThan1 A W w x = nat_abs (pos W *ℤ x -ℤ A *ℤ pos w) < W

-- x as party p's share of A
abbrev pub Near : ℤ → (ℕ → ℕ) → List ℕ → ℕ → ℤ → Type 0
Near A weight parties p x = LessThan1 A (total (map (counts weight parties) parties)) (counts weight parties p) x

-- of every user of a point-day: its place and its number
abbrev pub EachUser : PointDay → (ℕ → ℕ → Type 0) → Type 0
EachUser d P = (s : ℕ) → s < d.count → P s (number_at d s)

-- ---- an accepted call, from the book b before it to the point-day d after it

-- "prorated over users .. Then each user's share is prorated over that user's kinds"
pub record AllotShared (b : Book) (d : PointDay) : Type 0 where
  pub balance : EachUser d λ s n. Near (to_balance b) (user_weight b) b.users n (user_balance d s)
  pub of_kinds : EachUser d λ s n. (kind : ℕ) → has kind kinds ≡ true
      → Near (user_balance d s) (kind_weight b n) kinds kind (balance_at d s kind)

-- "net is prorated over them by those amounts, as revision"; no weight is negative
pub record StandInShared (row : List Pair) (b : Book) (d : PointDay) : Type 0 where
  pub weights : some_negative (amounts_in row) ≡ false
  pub revision : EachUser d λ s n. Near (net b) (row_weight row) (users_in row) n (revision_at d s)

-- "R is prorated by each user's whole amount, added to the revisions"; no weight is negative
pub record ReviseShared (b : Book) (d : PointDay) : Type 0 where
  pub weights : some_negative (map (whole b) b.users) ≡ false
  pub revision : EachUser d λ s n. Near (R b) (λ n. nat_abs (whole b n)) b.users n (revision_at d s -ℤ b.revision n)

-- "an assigned revision"
abbrev pub assigns : Answer → Bool
assigns (refused n) = false
assigns done = false
assigns (losses_added l) = false
assigns (rows_looked_at k) = false
assigns (within_tolerance R) = false
assigns (revision_assigned R) = true

-- allot, stand-in and an assigned revision give shares
abbrev pub CallShared : Call → Answer → Book → PointDay → Type 0
CallShared (join n) a b d = Unit {0}
CallShared (line n kind c k) a b d = Unit {0}
CallShared (lent_line n kind c k) a b d = Unit {0}
CallShared (measure emission downstream) a b d = Unit {0}
CallShared allot a b d = accepts (verdict_of a) ≡ true → AllotShared b d
CallShared (stand_in rows) a b d = accepts (verdict_of a) ≡ true → StandInShared (used_row rows) b d
CallShared revise a b d = assigns a ≡ true → ReviseShared b d
CallShared start_final a b d = Unit {0}
