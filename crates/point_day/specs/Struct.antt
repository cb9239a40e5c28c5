-- The point-day's arrays read as a day, a day laid out in arrays, the point-days that are taken, and a call on a point-day. Assumes nothing.
use Rattle.std.specs.Prelude.{Bool, false, not, List, [], ◌∷◌, ◌++◌, map, ◌≡◌, ℕ, ◌+◌, ◌-◌, ◌*◌, ltb, leb, eqb, ℤ, pos, nat_abs, length, take, drop, get_or, replicate}
use Rattle.numbers.specs.Sums.{pick, table, atZ}
use Rattle.numbers.specs.Lists.{both, either, every, has, distinct, flat}
use Rattle.numbers.specs.Amounts.{is_negative}
use Rattle.point_day.specs.Limits.{USERS, KINDS, CELLS, LIMIT, AMOUNT, ROWS}
use Rattle.point_day.specs.Day.{User, Day, numbers, all_offtake, all_whole, is_measured, some, no_more, is_zero, measurement_right, too_large}
use Rattle.point_day.specs.Calls.{Answer, refused, Move, Verdict, refuse, accept, verdict, Pair}
use Rattle.point_day.specs.declared.PointDay.{PointDay}
use Rattle.point_day.specs.declared.StandInRows.{StandInRows}

-- the arrays' lengths
pub record Sized (d : PointDay) : Type 0 where
  pub users : length d.users ≡ USERS
  pub consumption : length d.consumption ≡ CELLS
  pub losses : length d.losses ≡ CELLS
  pub balance : length d.balance ≡ CELLS
  pub revision : length d.revision ≡ USERS

-- ---- arrays and days

-- the cells of slot s: kind k of slot s stands at 5 × s + k − 1
abbrev pub kinds_of : {A : Type 0} → ℕ → List A → List A
kinds_of s xs = take KINDS (drop (KINDS * s) xs)

unfoldable pub user_at : PointDay → ℕ → User
user_at d s = record {
  number = get_or d.users s 0;
  consumption = map nat_abs (kinds_of s d.consumption);
  losses = map nat_abs (kinds_of s d.losses);
  balance = kinds_of s d.balance;
  revision = atZ d.revision s;
}

-- the day that the first `count` slots hold
unfoldable pub read : PointDay → Day
read d = record { stage = d.stage; allotted = d.allotted; measurement = d.measurement; users = table (user_at d) d.count }

-- n elements: those of the list, then as many x
unfoldable pub padded : {A : Type 0} → ℕ → A → List A → List A
padded n x xs = xs ++ replicate (n - length xs) x

-- a day in arrays, zeros past its last user
unfoldable pub laid : Day → PointDay
laid d = record {
  stage = d.stage;
  allotted = d.allotted;
  measurement = d.measurement;
  count = length d.users;
  users = padded USERS 0 (numbers d.users);
  consumption = padded CELLS (pos 0) (flat (map (λ u. map pos u.consumption) d.users));
  losses = padded CELLS (pos 0) (flat (map (λ u. map pos u.losses) d.users));
  balance = padded CELLS (pos 0) (flat (map (λ (u : User). u.balance) d.users));
  revision = padded USERS (pos 0) (map (λ (u : User). u.revision) d.users);
}

-- ---- taken

-- nothing but zeros from place n on
abbrev pub none_past : ℕ → List ℤ → Bool
none_past n zs = every is_zero (drop n zs)

-- nothing stands past the last user
abbrev pub empty_past : PointDay → Bool
empty_past d =
    both (every (λ n. eqb n 0) (drop d.count d.users))
    (both (none_past (KINDS * d.count) d.consumption)
    (both (none_past (KINDS * d.count) d.losses)
    (both (none_past (KINDS * d.count) d.balance) (none_past d.count d.revision))))

abbrev pub none_below : List ℤ → Bool
none_below zs = every (λ z. not (is_negative z)) zs

-- consumption and losses from 0, and together at most 1,000,000,000
abbrev pub offtake_right : PointDay → Bool
offtake_right d =
    both (none_below d.consumption) (both (none_below d.losses) (leb (all_offtake (read d).users) LIMIT))

-- a user without balance or revision
abbrev pub unallotted : User → Bool
unallotted u = both (every is_zero u.balance) (is_zero u.revision)

-- balance and revision at most 2,000,000,000 in size
abbrev pub amounts_right : User → Bool
amounts_right u = both (every (no_more AMOUNT) u.balance) (no_more AMOUNT u.revision)

-- from 0 to 1,000,000,000
abbrev pub sum_right : ℤ → Bool
sum_right z = both (not (is_negative z)) (no_more LIMIT z)

-- one of the conditions holds
unfoldable pub any : List Bool → Bool
any [] = false
any (b ∷ bs) = either b (any bs)

-- the sentence of section "The point-day" on what gives 2 before any other test, in its order
unfoldable pub faults : PointDay → List Bool
faults d =
    let us = (read d).users in
    -- "over 64 users"
    ltb USERS d.count
    -- "a number 0 or twice"
    ∷ either (has 0 (numbers us)) (not (distinct (numbers us)))
    -- "anything past its last user"
    ∷ not (empty_past d)
    -- "emission, consumption or losses past the limits below"
    ∷ either (not (measurement_right d.measurement)) (not (offtake_right d))
    -- "balance or revision while entering"
    ∷ both (not d.allotted) (not (every unallotted us))
    -- "a balance, revision or whole amount above 2,000,000,000 in size"
    ∷ either (not (every amounts_right us)) (too_large us)
    -- "whole amounts summing below 0 or above 1,000,000,000"
    ∷ not (sum_right (all_whole us))
    -- "or allotted without user or measurement"
    ∷ both d.allotted (not (both (some us) (is_measured d.measurement)))
    ∷ []

-- "all others are taken"
unfoldable pub taken : PointDay → Bool
taken d = not (any (faults d))

-- ---- a call on a point-day

-- the answer, and the point-day afterwards
pub record Outcome : Type 0 where
  pub answer : Answer
  pub day : PointDay

abbrev pub outcome : Answer → PointDay → Outcome
outcome a d = record { answer = a; day = d }

-- "A refused call returns the number and changes nothing"
abbrev pub by : Verdict → Move → PointDay → Outcome
by (refuse n) m d = outcome (refused n) d
by accept m d = outcome m.answer (laid m.after)

abbrev pub perform : Move → PointDay → Outcome
perform m d = by (verdict m.tests) m d

-- a point-day that is not taken "gives 2 before any other test"
unfoldable pub called : (Day → Move) → PointDay → Outcome
called move d = pick (taken d) (perform (move (read d)) d) (outcome (refused 2) d)

-- ---- the fifteen rows of a stand-in

-- pair j of row i
abbrev pub pair_at : StandInRows → ℕ → ℕ → Pair
pair_at rows i j = record { user = get_or rows.users (USERS * i + j) 0; amount = atZ rows.amounts (USERS * i + j) }

-- row i: as many pairs as its count says
abbrev pub row_at : StandInRows → ℕ → List Pair
row_at rows i = table (pair_at rows i) (get_or rows.counts i 0)

unfoldable pub rows_of : StandInRows → List (List Pair)
rows_of rows = table (row_at rows) ROWS
