-- Document 01, section "The point-day", the seven calls: for each its tests in the order of section "Refusals", its answer and the
-- day after it. Assumes nothing.
use Rattle.std.specs.Prelude.{Bool, true, false, not, ℕ, suc, ◌+◌, ◌-◌, ◌*◌, leb, ltb, eqb, ℤ, pos, nat_abs, ◌+ℤ◌, ◌-ℤ◌, length, drop, get_or, set}
use mathlib.Core.List.{List, [], ◌∷◌, ◌++◌, map, zip_with}
use Rattle.numbers.specs.Sums.{pick, total}
use Rattle.numbers.specs.Lists.{both, either, every, has, rising}
use Rattle.numbers.specs.Amounts.{is_negative}
use Rattle.numbers.specs.Nearest.{nearest}
pub use Rattle.numbers.specs.Refusals.{Test, ◌when◌, Verdict, refuse, accept}
unfoldable pub use Rattle.numbers.specs.Refusals.{verdict}
use Rattle.proration.specs.Proration.{prorateZ}
use Rattle.point_day.specs.Limits.{USERS, KINDS, LIMIT, AMOUNT, COEFFICIENT, PARTS, ROWS}
use Rattle.point_day.specs.Day.{User, Day, with_stage, with_allotted, with_measurement, with_consumption, with_losses, with_balance, with_revision, empty_user, numbers, all_offtake, whole, all_whole, net, is_measured, some, no_more, is_number, emission_right, too_large, provisional, last_stage, next}
pub use Rattle.point_day.specs.Day.{Pair, with_users}
pub use Rattle.point_day.specs.Answers.{Answer, refused, done, losses_added, rows_looked_at, within_tolerance, revision_assigned}
use Rattle.point_day.specs.Day.{metered}

-- ---- a call

-- what a call does to a day, if no test refuses it
pub record Move : Type 0 where
  pub tests : List Test
  pub answer : Answer
  pub after : Day

-- ---- days and users with other contents

abbrev pub allotted_with : List User → Day → Day
allotted_with us d = with_allotted true (with_users us d)

-- z more revision
abbrev pub revised : User → ℤ → User
revised u z = with_revision (u.revision +ℤ z) u

-- ---- Join (entering): adds a user

unfoldable pub join : ℕ → Day → Move
join n d = record {
  tests =
      (1 when d.allotted)
      ∷ (2 when not (is_number n))
      ∷ (4 when has n (numbers d.users))
      ∷ (5 when leb USERS (length d.users))
      ∷ [];
  answer = done;
  after = with_users (d.users ++ (empty_user n ∷ [])) d;
}

-- ---- Line (entering): user, kind, consumption, loss coefficient

-- consumption and losses of one user and kind
pub record Cell : Type 0 where
  pub consumption : ℕ
  pub losses : ℕ

-- a cell after a line, and the losses that the line added
pub record CellStep : Type 0 where
  pub after : Cell
  pub added : ℕ

-- "Adds the consumption, and as losses the nearest of consumption × coefficient / 100,000"
unfoldable pub cell_step : ℕ → ℕ → Cell → CellStep
cell_step c k cell = record {
  after = record { consumption = cell.consumption + c; losses = cell.losses + nearest (c * k) PARTS };
  added = nearest (c * k) PARTS;
}

abbrev pub cell_of : ℕ → User → Cell
cell_of kind u = record { consumption = get_or u.consumption (kind - 1) 0; losses = get_or u.losses (kind - 1) 0 }

-- the cell of the user of number n
unfoldable pub cell_in : ℕ → ℕ → List User → Cell
cell_in n kind [] = record { consumption = 0; losses = 0 }
cell_in n kind (u ∷ us) = pick (eqb u.number n) (cell_of kind u) (cell_in n kind us)

-- a user after a line
abbrev pub user_line : ℕ → ℕ → ℕ → User → User
user_line kind c k u =
    with_consumption (set u.consumption (kind - 1) (cell_step c k (cell_of kind u)).after.consumption)
    (with_losses (set u.losses (kind - 1) (cell_step c k (cell_of kind u)).after.losses) u)

abbrev pub for_user : ℕ → (User → User) → User → User
for_user n f u = pick (eqb u.number n) (f u) u

-- "kind .., consumption 0 to 1,000,000,000, loss coefficient 0 to 10,000"
unfoldable pub line_right : ℕ → ℕ → ℕ → ℕ → Bool
line_right n kind c k =
    both (is_number n) (both (both (leb 1 kind) (leb kind KINDS)) (both (leb c LIMIT) (leb k COEFFICIENT)))

-- "answers the losses added. All consumption and losses of a point-day together stay at or below 1,000,000,000."
unfoldable pub line : ℕ → ℕ → ℕ → ℕ → Day → Move
line n kind c k d = record {
  tests =
      (1 when d.allotted)
      ∷ (2 when not (line_right n kind c k))
      ∷ (3 when not (has n (numbers d.users)))
      ∷ (6 when ltb LIMIT (all_offtake d.users + (c + (cell_step c k (cell_in n kind d.users)).added)))
      ∷ [];
  answer = losses_added (cell_step c k (cell_in n kind d.users)).added;
  after = with_users (map (for_user n (user_line kind c k)) d.users) d;
}

-- ---- Measure (entering; provisional allotted): emission and downstream emission; the latest counts

unfoldable pub measure : ℕ → ℕ → Day → Move
measure emission downstream d = record {
  tests =
      (1 when both d.allotted (not (provisional d.stage)))
      ∷ (2 when not (emission_right emission downstream))
      ∷ [];
  answer = done;
  after = with_measurement (metered emission downstream) d;
}

-- ---- Allot (entering): balance = net − consumption − losses, over all users

-- consumption plus losses of each kind
abbrev pub of_kinds : User → List ℕ
of_kinds u = zip_with ◌+◌ u.consumption u.losses

-- the same of kinds 2 to 5, kind 1 counting 0
abbrev pub of_2_to_5 : User → List ℕ
of_2_to_5 u = 0 ∷ drop 1 (of_kinds u)

-- "these are zero for all users"
abbrev pub none_in_2_to_5 : List User → Bool
none_in_2_to_5 us = eqb (total (map (λ v. total (of_2_to_5 v)) us)) 0

-- "prorated over users by consumption plus losses of kinds 2 to 5; if these are zero for all users, of all kinds":
-- the weights of a user's kinds, decided over all users at once
abbrev pub by_basis : Bool → User → List ℕ
by_basis all u = pick all (of_kinds u) (of_2_to_5 u)

-- "if those are all zero, kind 1's proportion is the whole"
abbrev pub or_kind_1 : List ℕ → List ℕ
or_kind_1 ws = pick (eqb (total ws) 0) (1 ∷ 0 ∷ 0 ∷ 0 ∷ 0 ∷ []) ws

abbrev pub kinds : List ℕ
kinds = 1 ∷ 2 ∷ 3 ∷ 4 ∷ 5 ∷ []

-- the balance of the day
abbrev pub day_balance : Day → ℤ
day_balance d = net d -ℤ pos (all_offtake d.users)

-- the users' shares of it
abbrev pub user_shares : Day → List ℤ
user_shares d =
    prorateZ (day_balance d) (map (λ u. total (by_basis (none_in_2_to_5 d.users) u)) d.users) (numbers d.users)

-- "Then each user's share is prorated over that user's kinds with the same weights"
abbrev pub with_share : Bool → User → ℤ → User
with_share all u z = with_balance (prorateZ z (or_kind_1 (by_basis all u)) kinds) u

unfoldable pub balanced : Day → List User
balanced d = zip_with (with_share (none_in_2_to_5 d.users)) d.users (user_shares d)

unfoldable pub allot : Day → Move
allot d = record {
  tests =
      (1 when d.allotted)
      ∷ (7 when not (is_measured d.measurement))
      ∷ (8 when not (some d.users))
      ∷ (12 when too_large (balanced d))
      ∷ [];
  answer = done;
  after = allotted_with (balanced d) d;
}

-- ---- Stand-in (provisional entering, no user joined): fifteen rows, row i for the day i before

abbrev pub users_of : List Pair → List ℕ
users_of ps = map (λ (p : Pair). p.user) ps

abbrev pub amounts_of : List Pair → List ℤ
amounts_of ps = map (λ (p : Pair). p.amount) ps

-- "0 to 64 pairs of user number (rising) and amount (−2,000,000,000 to 2,000,000,000)"
abbrev pub row_right : List Pair → Bool
row_right ps =
    both (leb (length ps) USERS)
    (both (every is_number (users_of ps)) (both (rising (users_of ps)) (every (no_more AMOUNT) (amounts_of ps))))

-- "The nearest row with any pair is used", and "The number of rows looked at": its place, from 1
unfoldable pub nearest_filled : List (List Pair) → List Pair
nearest_filled [] = []
nearest_filled ([] ∷ rows) = nearest_filled rows
nearest_filled ((p ∷ ps) ∷ rows) = p ∷ ps

unfoldable pub looked_at : List (List Pair) → ℕ
looked_at [] = 0
looked_at ([] ∷ rows) = suc (looked_at rows)
looked_at ((p ∷ ps) ∷ rows) = 1

-- refusal 11: "a weight is negative"
abbrev pub negative : List ℤ → Bool
negative zs = not (every (λ z. not (is_negative z)) zs)

-- "Its users join, and net is prorated over them by those amounts, as revision": opening a day with a list
unfoldable pub opened : ℤ → List Pair → List User
opened z ps =
    zip_with revised (map (λ (p : Pair). empty_user p.user) ps) (prorateZ z (map nat_abs (amounts_of ps)) (users_of ps))

-- z is at most t
abbrev pub at_most : ℕ → ℤ → Bool
at_most t z = either (is_negative z) (no_more t z)

unfoldable pub stand_in : ℕ → List (List Pair) → Day → Move
stand_in tolerance rows d = record {
  tests =
      (1 when either (not (provisional d.stage)) (either d.allotted (some d.users)))
      ∷ (2 when not (both (eqb (length rows) ROWS) (every row_right rows)))
      ∷ (7 when not (is_measured d.measurement))
      ∷ (9 when at_most tolerance (net d))
      ∷ (10 when not (some (nearest_filled rows)))
      ∷ (11 when negative (amounts_of (nearest_filled rows)))
      ∷ (12 when too_large (opened (net d) (nearest_filled rows)))
      ∷ [];
  answer = rows_looked_at (looked_at rows);
  after = allotted_with (opened (net d) (nearest_filled rows)) d;
}

-- ---- Revise (provisional allotted)

-- "R is prorated by each user's whole amount, added to the revisions"
unfoldable pub assigned : ℤ → List User → List User
assigned R us = zip_with revised us (prorateZ R (map (λ u. nat_abs (whole u)) us) (numbers us))

abbrev pub not_revisable : Day → Bool
not_revisable d = not (both (provisional d.stage) d.allotted)

-- "nothing changes, and R is returned with «within tolerance»"
abbrev pub keep : ℤ → Day → Move
keep R d = record { tests = (1 when not_revisable d) ∷ []; answer = within_tolerance R; after = d }

-- "Otherwise R is prorated .. and returned": an assigned revision
abbrev pub assign : ℤ → Day → Move
assign R d = record {
  tests =
      (1 when not_revisable d)
      ∷ (11 when negative (map whole d.users))
      ∷ (12 when too_large (assigned R d.users))
      ∷ [];
  answer = revision_assigned R;
  after = with_users (assigned R d.users) d;
}

-- "If R lies in −100 to 100"
unfoldable pub revise_by : ℕ → ℤ → Day → Move
revise_by tolerance R d = pick (no_more tolerance R) (keep R d) (assign R d)

-- "R = net − everything allotted"
abbrev pub revise : ℕ → Day → Move
revise tolerance d = revise_by tolerance (net d -ℤ all_whole d.users) d

-- ---- Start-final (provisional or final provisional allotted): "next stage, entering. Users and measurement stay; all else is zero."

abbrev pub cleared : User → User
cleared u = empty_user u.number

unfoldable pub start_final : Day → Move
start_final d = record {
  tests = (1 when either (not d.allotted) (last_stage d.stage)) ∷ [];
  answer = done;
  after = with_stage (next d.stage) (with_allotted false (with_users (map cleared d.users) d));
}
