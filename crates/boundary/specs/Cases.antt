-- Calls on a point-day in plain numbers, worked by hand and computed by the definitions. Assumes nothing.
use Rattle.std.specs.Prelude.{List, [], ◌∷◌, ◌≡◌, refl, ℤ, pos, negsuc, replicate, set}
use Rattle.numbers.specs.Sums.{sum, table, total, totalZ, atZ}
use Rattle.numbers.specs.Lists.{every, has, distinct, rising, flat}
use Rattle.numbers.specs.Nearest.{nearest}
use Rattle.point_day.specs.Limits.{TOLERANCE}
use Rattle.point_day.specs.Day.{fresh}
use Rattle.point_day.specs.Calls.{verdict, join, line, line_right, cell_step, cell_in, revise_by, revise, stand_in}
use Rattle.point_day.specs.Struct.{user_at, read, padded, laid, any, faults, taken, called, rows_of}
use Rattle.stand_in.specs.Rows.{rows_readable, rows_in}
use Rattle.plain_day.specs.Layout.{LENGTH, MEASURED_AT, EMISSION_AT, DOWNSTREAM_AT, up_to, emissions_readable, head_readable, is_readable, day_in, stored}
use Rattle.plain_day.specs.Plain.{Plain, plain, plain_call, plain_fresh}

-- a fresh point-day, whatever the numbers were: all of them 0
unfoldable new : List ℤ
unfolding plain_fresh stored laid fresh padded flat
new = (plain_fresh (replicate LENGTH (pos 5))).numbers

all_zero : new ≡ replicate LENGTH (pos 0)
unfolding new
all_zero = refl

-- user 9 joins; then a line of kind 2, 10 kWh at 5 %: losses 0.5, rounded to 1
unfoldable joined : List ℤ
unfolding new plain_call is_readable head_readable emissions_readable up_to day_in stored called taken faults any laid padded read user_at verdict join every has distinct flat sum table total totalZ
joined = (plain_call (called (join 9)) [] new).numbers

unfoldable lined : Plain
unfolding joined plain_call is_readable head_readable emissions_readable up_to day_in stored called taken faults any laid padded read user_at verdict line line_right cell_step cell_in nearest every has distinct flat sum table total totalZ
lined = plain_call (called (line 9 2 10 5000)) (pos 7 ∷ []) joined

-- accepted, and the losses added are its value
accepted : lined.status ∷ [] ≡ 0 ∷ []
unfolding lined
accepted = refl

added : lined.values ≡ pos 1 ∷ []
unfolding lined
added = refl

-- count and number of the user; its consumption and losses of kind 2
figures : atZ lined.numbers 5 ∷ atZ lined.numbers 6 ∷ atZ lined.numbers 71 ∷ atZ lined.numbers 391 ∷ [] ≡ pos 1 ∷ pos 9 ∷ pos 10 ∷ pos 1 ∷ []
unfolding lined
figures = refl

-- a line for a user who has not joined: 3, and the value and the numbers stay
not_joined : plain_call (called (line 8 2 10 5000)) (pos 7 ∷ []) joined ≡ plain 3 (pos 7 ∷ []) joined
unfolding joined plain_call is_readable head_readable emissions_readable up_to day_in stored called taken faults any laid padded read user_at verdict line line_right cell_step cell_in nearest every has distinct flat sum table total totalZ
not_joined = refl

-- unmeasured with an emission of 2,000,000,000: 2; within the limits both emissions stay as they are
past_limit : (plain_call (called (join 3)) [] (set joined EMISSION_AT (pos 2000000000))).status ≡ 2
unfolding joined plain_call is_readable head_readable emissions_readable up_to
past_limit = refl

kept : atZ (plain_call (called (join 3)) [] (set (set joined EMISSION_AT (pos 800)) DOWNSTREAM_AT (pos 5))).numbers EMISSION_AT ≡ pos 800
unfolding joined plain_call is_readable head_readable emissions_readable up_to day_in stored called taken faults any laid padded read user_at verdict join every has distinct flat sum table total totalZ
kept = refl

-- a negative emission
negative_emission : (plain_call (called (join 3)) [] (set (set joined MEASURED_AT (pos 1)) EMISSION_AT (negsuc 0))).status ≡ 2
unfolding joined plain_call is_readable head_readable emissions_readable up_to
negative_emission = refl

-- too few numbers
too_few : plain_call (called (join 9)) [] (pos 0 ∷ []) ≡ plain 2 [] (pos 0 ∷ [])
unfolding plain_call is_readable
too_few = refl

-- a revise while entering: 1, and both values stay
unrevised : plain_call (called (revise TOLERANCE)) (pos 6 ∷ pos 7 ∷ []) joined ≡ plain 1 (pos 6 ∷ pos 7 ∷ []) joined
unfolding joined plain_call is_readable head_readable emissions_readable up_to day_in called taken faults any read user_at verdict revise_by every has distinct flat sum table total totalZ
unrevised = refl

-- a stand-in with lists of another length: 2, and 1 before it where a user has joined
no_lists : (plain_call (called (stand_in TOLERANCE (rows_of (rows_in [] [] [])))) [] new).status ≡ 2
unfolding new plain_call is_readable head_readable emissions_readable up_to day_in called taken faults any read user_at verdict stand_in rows_in rows_readable rows_of every rising has distinct flat sum table total totalZ
no_lists = refl

no_lists_joined : (plain_call (called (stand_in TOLERANCE (rows_of (rows_in [] [] [])))) [] joined).status ≡ 1
unfolding joined plain_call is_readable head_readable emissions_readable up_to day_in called taken faults any read user_at verdict stand_in rows_in rows_readable rows_of every rising has distinct flat sum table total totalZ
no_lists_joined = refl
