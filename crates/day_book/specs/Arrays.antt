-- Where a point-day's figures stand in its arrays, and what it is for them to be a book's. Assumes nothing.
use Rattle.std.specs.Prelude.{◌≡◌, true, map, ℕ, ◌+◌, ◌-◌, ◌*◌, ◌≤◌, ◌<◌, ℤ, pos, ◌+ℤ◌, length}
use Rattle.numbers.specs.Sums.{at, atZ, totalZ}
use Rattle.numbers.specs.Lists.{has}
use Rattle.point_day.specs.Struct.{Sized}
use Rattle.point_day.specs.declared.PointDay.{PointDay}
use Rattle.day_book.specs.Book.{Book, kinds, consumption, losses}

-- ---- the user at place s, from 0 on, in the order in which users joined

abbrev pub number_at : PointDay → ℕ → ℕ
number_at d s = at d.users s

abbrev pub revision_at : PointDay → ℕ → ℤ
revision_at d s = atZ d.revision s

-- its figures of a kind: five for each user, kind 1 first
abbrev pub place : ℕ → ℕ → ℕ
place s kind = 5 * s + (kind - 1)

abbrev pub consumption_at : PointDay → ℕ → ℕ → ℤ
consumption_at d s kind = atZ d.consumption (place s kind)

abbrev pub losses_at : PointDay → ℕ → ℕ → ℤ
losses_at d s kind = atZ d.losses (place s kind)

abbrev pub balance_at : PointDay → ℕ → ℕ → ℤ
balance_at d s kind = atZ d.balance (place s kind)

-- its balance over all kinds
abbrev pub user_balance : PointDay → ℕ → ℤ
user_balance d s = totalZ (map (balance_at d s) kinds)

-- everything that the users have: consumption, losses, signed balance and revisions, all added up
abbrev pub everything : PointDay → ℤ
everything d = (totalZ d.consumption +ℤ totalZ d.losses) +ℤ (totalZ d.balance +ℤ totalZ d.revision)

-- ---- what a book has of user n stands at place s

pub record SameUser (d : PointDay) (s : ℕ) (b : Book) (n : ℕ) : Type 0 where
  pub number : number_at d s ≡ n
  pub used : (kind : ℕ) → has kind kinds ≡ true → consumption_at d s kind ≡ pos (consumption b n kind)
  pub lost : (kind : ℕ) → has kind kinds ≡ true → losses_at d s kind ≡ pos (losses b n kind)
  pub balance : (kind : ℕ) → has kind kinds ≡ true → balance_at d s kind ≡ b.balance n kind
  pub revision : revision_at d s ≡ b.revision n

-- nothing stands at place s
pub record NoUser (d : PointDay) (s : ℕ) : Type 0 where
  pub number : number_at d s ≡ 0
  pub used : (kind : ℕ) → consumption_at d s kind ≡ pos 0
  pub lost : (kind : ℕ) → losses_at d s kind ≡ pos 0
  pub balance : (kind : ℕ) → balance_at d s kind ≡ pos 0
  pub revision : revision_at d s ≡ pos 0

-- the point-day holds what the book does, and nothing else
pub record Holds (d : PointDay) (b : Book) : Type 0 where
  pub stage : d.stage ≡ b.stage
  pub allotted : d.allotted ≡ b.allotted
  pub measurement : d.measurement ≡ b.measurement
  pub count : d.count ≡ length b.users
  pub users : (s : ℕ) → s < length b.users → SameUser d s b (at b.users s)
  pub past : (s : ℕ) → length b.users ≤ s → NoUser d s
  pub sized : Sized d
