-- A law beside the claim: what each call of a list leaves as it was, of the figures that the point-day holds before and after it.
-- Assumes nothing.
use Rattle.std.specs.Prelude.{◌≡◌, Bool, List, map, ℕ, ℤ, length, take}
use Rattle.point_day.specs.Day.{User, Day, numbers}
use Rattle.point_day.specs.Answers.{Answer, refused, done, losses_added, rows_looked_at, within_tolerance, revision_assigned}
use Rattle.point_day.specs.declared.Stage.{Stage}
use Rattle.point_day.specs.declared.Measurement.{Measurement}
use Rattle.point_day.specs.Struct.{read}
use Rattle.day_book.specs.Run.{Call, join, line, lent_line, measure, allot, stand_in, revise, start_final, Calls, none, ◌then◌}
use Rattle.day_book.specs.Run.{run, answer_after}
use Rattle.std.specs.Prelude.{Option}

-- ---- figures of a day

abbrev pub stage : Day → Stage
stage d = d.stage

abbrev pub allotted : Day → Bool
allotted d = d.allotted

abbrev pub measurement : Day → Option Measurement
measurement d = d.measurement

abbrev pub joined_users : Day → List ℕ
joined_users d = numbers d.users

abbrev pub consumptions : Day → List (List ℕ)
consumptions d = map (λ (u : User). u.consumption) d.users

abbrev pub all_losses : Day → List (List ℕ)
all_losses d = map (λ (u : User). u.losses) d.users

abbrev pub balances : Day → List (List ℤ)
balances d = map (λ (u : User). u.balance) d.users

abbrev pub revisions : Day → List ℤ
revisions d = map (λ (u : User). u.revision) d.users

abbrev pub Stays : {A : Type 0} → (Day → A) → Day → Day → Type 0
Stays f before after = f after ≡ f before

-- ---- by call, if it was accepted

abbrev pub Leaves : Call → Day → Day → Type 0
-- "adds a user", after the others with all that they have
Leaves (join n) x y = Stays stage x y × Stays allotted x y × Stays measurement x y × (take (length x.users) y.users ≡ x.users)
-- "Adds the consumption, and as losses .."
Leaves (line n kind c k) x y =
    Stays stage x y × Stays allotted x y × Stays measurement x y × Stays joined_users x y × Stays balances x y × Stays revisions x y
Leaves (lent_line n kind c k) x y =
    Stays stage x y × Stays allotted x y × Stays measurement x y × Stays joined_users x y × Stays balances x y × Stays revisions x y
-- of the measurement "the latest counts"
Leaves (measure emission downstream) x y = Stays stage x y × Stays allotted x y × (y.users ≡ x.users)
-- the balance is prorated, and "The stage is then allotted"
Leaves allot x y =
    Stays stage x y × Stays measurement x y × Stays joined_users x y × Stays consumptions x y × Stays all_losses x y × Stays revisions x y
-- "Its users join, and net is prorated .. as revision", and "The stage is then allotted"
Leaves (stand_in rows) x y = Stays stage x y × Stays measurement x y
-- R is "added to the revisions"
Leaves revise x y =
    Stays stage x y × Stays allotted x y × Stays measurement x y × Stays joined_users x y
    × Stays consumptions x y × Stays all_losses x y × Stays balances x y
-- "Users and measurement stay"
Leaves start_final x y = Stays measurement x y × Stays joined_users x y

-- a refused call "changes nothing", and neither does a revise within tolerance
abbrev pub LeavesBy : Answer → Call → Day → Day → Type 0
LeavesBy (refused n) c x y = y ≡ x
LeavesBy done c x y = Leaves c x y
LeavesBy (losses_added l) c x y = Leaves c x y
LeavesBy (rows_looked_at k) c x y = Leaves c x y
LeavesBy (within_tolerance R) c x y = y ≡ x
LeavesBy (revision_assigned R) c x y = Leaves c x y

unfoldable pub AllLeft : Calls → Type 0
AllLeft none = Unit {0}
AllLeft (cs then c) = AllLeft cs × LeavesBy (answer_after cs c) c (read (run cs)) (read (run (cs then c)))
