-- The day that a book describes, in the form in which the calls have it: for proofs, for laws beside the claim, and for the claim on plain
-- numbers. Assumes nothing.
use Rattle.std.specs.Prelude.{map, ℕ}
use Rattle.point_day.specs.Day.{User, Day}
use Rattle.day_book.specs.Book.{Book, kinds, consumption, losses}

abbrev pub user_of : Book → ℕ → User
user_of b n = record {
  number = n;
  consumption = map (consumption b n) kinds;
  losses = map (losses b n) kinds;
  balance = map (b.balance n) kinds;
  revision = b.revision n;
}

unfoldable pub day_of : Book → Day
day_of b = record { stage = b.stage; allotted = b.allotted; measurement = b.measurement; users = map (user_of b) b.users }
