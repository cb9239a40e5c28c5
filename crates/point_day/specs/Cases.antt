-- Cases of the seven calls, worked by hand from document 01 and computed through the point-day's arrays. Assumes nothing.
use mathlib.Core.List.{List, [], ◌∷◌, map, zip_with}
use Rattle.std.specs.Prelude.{◌≡◌, refl, pos, neg_ℤ}
use Rattle.numbers.specs.Sums.{sum, table, total, totalZ}
use Rattle.numbers.specs.Lists.{every, has, distinct, rising, flat}
use Rattle.numbers.specs.Nearest.{nearest}
use Rattle.proration.specs.Proration.{before, left, share, split, counted, prorate, prorateZ}
use Rattle.point_day.specs.Limits.{LIMIT, TOLERANCE}
use Rattle.point_day.specs.Day.{User, Day, fresh, whole}
use Rattle.point_day.specs.Calls.{refused, losses_added, rows_looked_at, within_tolerance, revision_assigned, Move, verdict, join, cell_step, cell_in, line_right, line, measure, balanced, allot, Pair, nearest_filled, looked_at, opened, stand_in, assigned, revise_by, revise, start_final}
use Rattle.point_day.specs.Struct.{user_at, read, padded, laid, any, faults, taken, called}
use Rattle.point_day.specs.declared.PointDay.{PointDay}

-- the point-day after a call; to unfold it is to compute it
infixl 5 ◌then◌
unfoldable ◌then◌ : PointDay → (Day → Move) → PointDay
unfolding called taken faults any laid padded read user_at fresh verdict join line line_right cell_step cell_in measure allot balanced stand_in nearest_filled looked_at opened revise_by assigned start_final prorateZ prorate counted split share left before nearest every has distinct rising flat zip_with sum table total totalZ
d then m = (called m d).day

-- ---- line: losses are nearest, halves up, and count in the sum of the point-day

unfoldable joined : PointDay
joined = laid fresh then join 9

half_up : (called (line 9 2 10 5000) joined).answer ≡ losses_added 1
unfolding joined ◌then◌
half_up = refl

with_losses : (called (line 9 2 LIMIT 1) joined).answer ≡ refused 6
unfolding joined ◌then◌
with_losses = refl

-- ---- allot: net 100; consumption 50 of kind 1 and 10 of kind 2; 10 of kind 3, 10 of kind 5 with losses 1; users not in order

unfoldable entered : PointDay
entered =
    laid fresh
    then measure 150 50
    then join 9
    then line 9 1 50 0
    then line 9 2 10 0
    then join 4
    then line 4 3 10 0
    then line 4 5 10 5000

-- 19 by 10 and 21 is 6 and 13; 13 by 10 and 11 is 6 and 7
by_2_to_5 : map (λ (u : User). u.balance) (read (entered then allot)).users
    ≡ (pos 0 ∷ pos 6 ∷ pos 0 ∷ pos 0 ∷ pos 0 ∷ []) ∷ (pos 0 ∷ pos 0 ∷ pos 6 ∷ pos 0 ∷ pos 7 ∷ []) ∷ []
unfolding entered ◌then◌
by_2_to_5 = refl

-- ---- revise

-- one user's consumption 40 and another's 0, net 0: whole amounts 0, 0; the net is then 101
unfoldable none_left : PointDay
none_left =
    laid fresh
    then measure 40 40
    then join 2
    then line 2 1 40 0
    then join 1
    then allot
    then measure 141 40

-- all weights are zero: 101 by 1 and 1, the unit left over to the lower number
equal_parts : map (λ (u : User). u.revision) (read (none_left then revise TOLERANCE)).users ≡ pos 50 ∷ pos 51 ∷ []
unfolding none_left ◌then◌
equal_parts = refl

assigned_101 : (called (revise TOLERANCE) none_left).answer ≡ revision_assigned (pos 101)
unfolding none_left ◌then◌
assigned_101 = refl

-- a consumption of kind 2 takes the whole deficit: whole amounts −10 and 30
unfoldable deficit : PointDay
deficit =
    laid fresh
    then measure 20 0
    then join 1
    then line 1 2 10 0
    then join 2
    then line 2 1 30 0
    then allot

below_0 : map whole (read deficit).users ≡ neg_ℤ (pos 10) ∷ pos 30 ∷ []
unfolding deficit ◌then◌
below_0 = refl

-- "a weight is negative (revise outside tolerance ..)"
negative_weight : (called (revise TOLERANCE) (deficit then measure 121 0)).answer ≡ refused 11
unfolding deficit ◌then◌
negative_weight = refl

inside_tolerance : (called (revise TOLERANCE) (deficit then measure 120 0)).answer ≡ within_tolerance (pos 100)
unfolding deficit ◌then◌
inside_tolerance = refl

-- ---- start-final: users stay, all else is zero

restarted : map (λ (u : User). u.consumption) (read (deficit then start_final)).users
    ≡ (0 ∷ 0 ∷ 0 ∷ 0 ∷ 0 ∷ []) ∷ (0 ∷ 0 ∷ 0 ∷ 0 ∷ 0 ∷ []) ∷ []
unfolding deficit ◌then◌
restarted = refl

-- ---- stand-in: the nearest row with any pair, by its amounts

unfoldable two_filled : List (List Pair)
two_filled =
    []
    ∷ (record { user = 5; amount = pos 1 } ∷ record { user = 6; amount = pos 3 } ∷ [])
    ∷ (record { user = 8; amount = pos 1 } ∷ [])
    ∷ [] ∷ [] ∷ [] ∷ [] ∷ [] ∷ [] ∷ [] ∷ [] ∷ [] ∷ [] ∷ [] ∷ [] ∷ []

-- 201 by 1 and 3 is 50 and 151
nearest_row : map (λ (u : User). u.revision) (read (laid fresh then measure 201 0 then stand_in TOLERANCE two_filled)).users ≡ pos 50 ∷ pos 151 ∷ []
unfolding two_filled ◌then◌
nearest_row = refl

looked_at_2 : (called (stand_in TOLERANCE two_filled) (laid fresh then measure 201 0)).answer ≡ rows_looked_at 2
unfolding two_filled ◌then◌
looked_at_2 = refl
