-- Cases of the day book, computed through the book itself: examples P1, P8 and P9, what settles, refusals. Assumes nothing.
use Rattle.std.specs.Prelude.{List, [], ◌∷◌, map, ◌≡◌, refl, ℕ, ℤ, pos}
use Rattle.numbers.specs.Sums.{sum, table, total, totalZ}
use Rattle.numbers.specs.Lists.{every, has, rising}
use Rattle.numbers.specs.Nearest.{nearest}
use Rattle.numbers.specs.Refusals.{refuse, accept, verdict}
use Rattle.proration.specs.Proration.{before, left, share, split, counted, prorate, prorateZ}
use Rattle.point_day.specs.Calls.{Pair, within_tolerance, rows_looked_at}
use Rattle.day_book.specs.Run.{join, line, measure, allot, stand_in, revise, start_final, Calls, none, ◌then◌}
use Rattle.day_book.specs.Book as own
use Rattle.day_book.specs.Book.{Book, fresh_book, kinds, consumption, losses, added_up, whole, beside, part, joined, with_line}
use Rattle.day_book.specs.Book.{measured, weighing, kind_weight, empty_before, used_row, rows_looked, stood_in, assigned, restarted}
use Rattle.day_book.specs.Book.{row_in_range, refusals, book, verdicts}
use Rattle.day_book.specs.Book.{values}

-- the book after a list of calls; to unfold it is to compute it
splits : Unit {0}
unfolding prorateZ prorate counted split share left before nearest every has rising sum table total totalZ
splits = tt

entries : Unit {0}
unfolding fresh_book joined with_line measured own.allotted stood_in assigned restarted added_up whole beside part weighing kind_weight
entries = tt

unfoldable kept : Calls → Book
unfolding splits entries book refusals verdict empty_before used_row rows_looked row_in_range
kept cs = book cs

-- a user's number, consumption, losses, balance and whole amount
abbrev figures : Book → ℕ → List ℤ
figures b n =
    pos n
    ∷ pos (total (map (consumption b n) kinds))
    ∷ pos (total (map (losses b n) kinds))
    ∷ totalZ (map (b.balance n) kinds)
    ∷ whole b n
    ∷ []

abbrev revisions : Book → List ℤ
revisions b = map b.revision b.users

-- ---- P1: "E's figures"

unfoldable E : Calls
E =
    none
    then measure 1000 100
    then join 7
    then line 7 1 300 1000
    then line 7 3 200 0
    then join 9
    then line 9 5 150 2000
    then join 12
    then line 12 2 50 0
    then allot

p1 : map (figures (kept E)) (kept E).users
    ≡ (pos 7 ∷ pos 500 ∷ pos 3 ∷ pos 96 ∷ pos 599 ∷ [])
    ∷ (pos 9 ∷ pos 150 ∷ pos 3 ∷ pos 74 ∷ pos 227 ∷ [])
    ∷ (pos 12 ∷ pos 50 ∷ pos 0 ∷ pos 24 ∷ pos 74 ∷ [])
    ∷ []
unfolding kept E
p1 = refl

-- ---- P8: "E allotted, then measured at emission 1100, downstream 100: R 100, nothing; at 1101 instead: 67, 26, 8"

p8_answer : values revise (kept (E then measure 1100 100)) ≡ within_tolerance (pos 100)
unfolding kept E
p8_answer = refl

p8_nothing : revisions (kept (E then measure 1100 100 then revise)) ≡ pos 0 ∷ pos 0 ∷ pos 0 ∷ []
unfolding kept E
p8_nothing = refl

p8_instead : revisions (kept (E then measure 1101 100 then revise)) ≡ pos 67 ∷ pos 26 ∷ pos 8 ∷ []
unfolding kept E
p8_instead = refl

-- R is 101 and settles: a second revise finds R at 0, within tolerance
p8_again : values revise (kept (E then measure 1101 100 then revise)) ≡ within_tolerance (pos 0)
unfolding kept E
p8_again = refl

-- ---- P9: "two empty rows, then users 5 and 6 at 0, net 201: 101, 100, looked at 3"

unfoldable fifteen_rows : List (List Pair)
fifteen_rows =
    []
    ∷ []
    ∷ (record { user = 5; amount = pos 0 } ∷ record { user = 6; amount = pos 0 } ∷ [])
    ∷ [] ∷ [] ∷ [] ∷ [] ∷ [] ∷ [] ∷ [] ∷ [] ∷ [] ∷ [] ∷ [] ∷ [] ∷ []

p9 : revisions (kept (none then measure 201 0 then stand_in fifteen_rows)) ≡ pos 101 ∷ pos 100 ∷ []
unfolding kept fifteen_rows
p9 = refl

p9_answer : values (stand_in fifteen_rows) (kept (none then measure 201 0)) ≡ rows_looked_at 3
unfolding kept fifteen_rows
p9_answer = refl

-- ---- the settled net

unfoldable allotted_60 : Calls
allotted_60 = none then join 3 then line 3 2 40 0 then measure 60 0 then allot

allot_settles : (kept allotted_60).settled ≡ pos 60
unfolding kept allotted_60
allot_settles = refl

measure_settles_nothing : (kept (allotted_60 then measure 161 0)).settled ≡ pos 60
unfolding kept allotted_60
measure_settles_nothing = refl

-- R is 101
assigned_settles : (kept (allotted_60 then measure 161 0 then revise)).settled ≡ pos 161
unfolding kept allotted_60
assigned_settles = refl

-- R is 100
within_settles_nothing : (kept (allotted_60 then measure 160 0 then revise)).settled ≡ pos 60
unfolding kept allotted_60
within_settles_nothing = refl

-- ---- refusals, the last call's first

by_rows : verdicts (allotted_60 then join 4 then start_final then join 3 then line 4 2 10 0 then revise then join 4)
    ≡ accept ∷ refuse 1 ∷ refuse 3 ∷ refuse 4 ∷ accept ∷ refuse 1 ∷ accept ∷ accept ∷ accept ∷ accept ∷ []
unfolding verdicts kept allotted_60
by_rows = refl

-- row 1 before row 7: a stand-in that finds a user, and is unmeasured
stand_in_late : verdicts (none then join 3 then stand_in fifteen_rows) ≡ refuse 1 ∷ accept ∷ []
unfolding verdicts kept fifteen_rows
stand_in_late = refl

-- row 7 before row 8
allot_nothing : verdicts (none then allot then measure 5 0 then allot) ≡ refuse 8 ∷ accept ∷ refuse 7 ∷ []
unfolding verdicts kept
allot_nothing = refl
