-- Document 01's day book: "Fed the calls with their arguments and nothing of their answers, it starts fresh, refuses by the table below,
-- and otherwise does on its own numbers what the calls above say". A ledger, written from the paper apart from the point-day's calls:
-- users by their numbers, lines as they came, refusals row by row. Assumes nothing.
use Rattle.std.specs.Prelude.{Bool, true, false, not, List, [], ◌∷◌, ◌++◌, map, ℕ, suc, ◌+◌, ◌*◌, leb, ltb, eqb, ℤ, pos, neg_ℤ, nat_abs, ◌+ℤ◌, ◌-ℤ◌, length, get_or}
use Rattle.std.specs.Int.Signed.{le_z}
use Rattle.numbers.specs.Sums.{pick, total, totalZ}
use Rattle.numbers.specs.Lists.{both, either, every, has, rising}
use Rattle.numbers.specs.Nearest.{nearest}
use Rattle.numbers.specs.Refusals.{Test, ◌when◌, Verdict, refuse, accept, verdict}
use Rattle.proration.specs.Proration.{prorateZ}
use Rattle.point_day.specs.Day.{Pair}
use Rattle.point_day.specs.Answers.{Answer, refused, done, losses_added, rows_looked_at, within_tolerance, revision_assigned}
use Rattle.point_day.specs.declared.Stage.{Stage}
use Rattle.point_day.specs.declared.Stage.TheVariants.{Provisional, FinalProvisional, FinalDefinitive}
use Rattle.point_day.specs.declared.Measurement.{Measurement}
use Rattle.day_book.specs.Calls.{Call, join, line, lent_line, measure, allot, stand_in, revise, start_final, Calls, none, ◌then◌}
use Rattle.day_book.specs.Calls.{Line, a_line, by_call}
use Rattle.std.specs.Prelude.{Option, None, Some}

-- ---- its numbers, apart from those of the calls

-- "up to 64 users, numbered 1 to 65,535"
abbrev pub USERS : ℕ
USERS = 64

abbrev pub LAST_NUMBER : ℕ
LAST_NUMBER = 65535

-- "consumption 0 to 1,000,000,000", emission likewise, and the limit of the sum
abbrev pub LIMIT : ℕ
LIMIT = 1000000000

-- "loss coefficient 0 to 10,000 in parts of 100,000"
abbrev pub COEFFICIENT : ℕ
COEFFICIENT = 10000

abbrev pub PARTS : ℕ
PARTS = 100000

-- "takes fifteen rows"
abbrev pub ROWS : ℕ
ROWS = 15

-- "amount (−2,000,000,000 to 2,000,000,000)", and the limit of a whole amount
abbrev pub AMOUNT : ℕ
AMOUNT = 2000000000

-- "R lies in −100 to 100", "net at most 100"
abbrev pub TOLERANCE : ℕ
TOLERANCE = 100

-- ---- what the book holds

pub record Book : Type 0 where
  pub stage : Stage
  pub allotted : Bool
  pub measurement : Option Measurement
  -- users in the order in which they joined
  pub users : List ℕ
  -- the lines accepted in this stage, the latest first
  pub lines : List Line
  -- by user and kind, and by user
  pub balance : ℕ → ℕ → ℤ
  pub revision : ℕ → ℤ
  -- the settled net
  pub settled : ℤ

-- a book of these, in that order
abbrev pub page : Stage → Bool → Option Measurement → List ℕ → List Line → (ℕ → ℕ → ℤ) → (ℕ → ℤ) → ℤ → Book
page s a m us ls bal rev net = record {
  stage = s;
  allotted = a;
  measurement = m;
  users = us;
  lines = ls;
  balance = bal;
  revision = rev;
  settled = net;
}

-- a book with another value in one field
abbrev pub with_stage : Stage → Book → Book
with_stage x b = page x b.allotted b.measurement b.users b.lines b.balance b.revision b.settled

abbrev pub with_allotted : Bool → Book → Book
with_allotted x b = page b.stage x b.measurement b.users b.lines b.balance b.revision b.settled

abbrev pub with_measurement : Option Measurement → Book → Book
with_measurement x b = page b.stage b.allotted x b.users b.lines b.balance b.revision b.settled

abbrev pub with_users : List ℕ → Book → Book
with_users x b = page b.stage b.allotted b.measurement x b.lines b.balance b.revision b.settled

abbrev pub with_lines : List Line → Book → Book
with_lines x b = page b.stage b.allotted b.measurement b.users x b.balance b.revision b.settled

abbrev pub with_balance : (ℕ → ℕ → ℤ) → Book → Book
with_balance x b = page b.stage b.allotted b.measurement b.users b.lines x b.revision b.settled

abbrev pub with_revision : (ℕ → ℤ) → Book → Book
with_revision x b = page b.stage b.allotted b.measurement b.users b.lines b.balance x b.settled

abbrev pub with_settled : ℤ → Book → Book
with_settled x b = page b.stage b.allotted b.measurement b.users b.lines b.balance b.revision x

-- "Fresh is provisional, entering, empty, unmeasured"
unfoldable pub fresh_book : Book
fresh_book = page Provisional false None [] [] (λ n kind. pos 0) (λ n. pos 0) (pos 0)

-- ---- its figures

-- "five kinds", and those whose consumption plus losses weigh first
abbrev pub kinds : List ℕ
kinds = 1 ∷ 2 ∷ 3 ∷ 4 ∷ 5 ∷ []

abbrev pub kinds_2_to_5 : List ℕ
kinds_2_to_5 = 2 ∷ 3 ∷ 4 ∷ 5 ∷ []

abbrev pub unmeasured : Option Measurement → Bool
unmeasured None = true
unmeasured (Some m) = false

-- "Net is the difference"; 0 if unmeasured, which no call then uses
abbrev pub net_of : Option Measurement → ℤ
net_of None = pos 0
net_of (Some m) = pos m.emission -ℤ pos m.downstream

abbrev pub net : Book → ℤ
net b = net_of b.measurement

-- "as losses the nearest of consumption × coefficient / 100,000"
abbrev pub losses_of : Line → ℕ
losses_of l = nearest (l.consumption * l.coefficient) PARTS

-- f of the lines of a user and kind, added up
unfoldable pub added_up : (Line → ℕ) → ℕ → ℕ → List Line → ℕ
added_up f n kind ls = total (map (λ l. pick (both (eqb l.user n) (eqb l.kind kind)) (f l) 0) ls)

abbrev pub consumption : Book → ℕ → ℕ → ℕ
consumption b n kind = added_up (λ l. l.consumption) n kind b.lines

abbrev pub losses : Book → ℕ → ℕ → ℕ
losses b n kind = added_up losses_of n kind b.lines

-- consumption plus losses: of a user's kind, of some of its kinds, of the point-day
abbrev pub offtake : Book → ℕ → ℕ → ℕ
offtake b n kind = consumption b n kind + losses b n kind

abbrev pub offtake_of : List ℕ → Book → ℕ → ℕ
offtake_of ks b n = total (map (offtake b n) ks)

abbrev pub point_sum : Book → ℕ
point_sum b = total (map (offtake_of kinds b) b.users)

-- "Whole amount: a user's consumption, losses and balance over all kinds, plus revision"
unfoldable pub whole : Book → ℕ → ℤ
whole b n = (pos (offtake_of kinds b n) +ℤ totalZ (map (b.balance n) kinds)) +ℤ b.revision n

-- "R in it is net − settled net"
abbrev pub R : Book → ℤ
R b = net b -ℤ b.settled

-- ---- splits: over parties that are numbers, users' or kinds', by a weight for each

-- what stands beside p: the amount of the list at the place that p has among the parties
unfoldable pub beside : List ℕ → List ℤ → ℕ → ℤ
beside [] zs p = pos 0
beside (q ∷ qs) [] p = pos 0
beside (q ∷ qs) (z ∷ zs) p = pick (eqb q p) z (beside qs zs p)

-- what p gets of A
unfoldable pub part : ℤ → (ℕ → ℕ) → List ℕ → ℕ → ℤ
part A weight parties p = beside parties (prorateZ A (map weight parties) parties) p

-- ---- Join: "adds a user"

unfoldable pub joined : ℕ → Book → Book
joined n b = with_users (b.users ++ (n ∷ [])) b

-- ---- Line: "Adds the consumption, and as losses .."

unfoldable pub with_line : Line → Book → Book
with_line l b = with_lines (l ∷ b.lines) b

-- ---- Measure: "the latest counts"

unfoldable pub measured : ℕ → ℕ → Book → Book
measured emission downstream b = with_measurement (Some (record { emission = emission; downstream = downstream })) b

-- ---- Allot

-- "balance = net − consumption − losses, over all users"
abbrev pub to_balance : Book → ℤ
to_balance b = net b -ℤ pos (point_sum b)

-- "by consumption plus losses of kinds 2 to 5; if these are zero for all users, of all kinds": the kinds that weigh
unfoldable pub weighing : Book → List ℕ
weighing b = pick (eqb (total (map (offtake_of kinds_2_to_5 b) b.users)) 0) kinds kinds_2_to_5

abbrev pub user_weight : Book → ℕ → ℕ
user_weight b n = offtake_of (weighing b) b n

-- "with the same weights; if those are all zero, kind 1's proportion is the whole"
unfoldable pub kind_weight : Book → ℕ → ℕ → ℕ
kind_weight b n kind = pick (eqb (user_weight b n) 0) (pick (eqb kind 1) 1 0) (pick (has kind (weighing b)) (offtake b n kind) 0)

-- "It is prorated over users .. Then each user's share is prorated over that user's kinds"
abbrev pub user_share : Book → ℕ → ℤ
user_share b n = part (to_balance b) (user_weight b) b.users n

abbrev pub kind_share : Book → ℕ → ℕ → ℤ
kind_share b n kind = part (user_share b n) (kind_weight b n) kinds kind

-- "The stage is then allotted"; "Allot, stand-in and a revise outside tolerance .. also make its net the settled net"
unfoldable pub allotted : Book → Book
allotted b = with_allotted true (with_balance (kind_share b) (with_settled (net b) b))

-- ---- Stand-in

abbrev pub users_in : List Pair → List ℕ
users_in ps = map (λ (p : Pair). p.user) ps

abbrev pub amounts_in : List Pair → List ℤ
amounts_in ps = map (λ (p : Pair). p.amount) ps

abbrev pub is_empty : List Pair → Bool
is_empty ps = eqb (length ps) 0

-- how many rows are empty before the nearest row with any pair
unfoldable pub empty_before : List (List Pair) → ℕ
empty_before [] = 0
empty_before (ps ∷ rows) = pick (is_empty ps) (suc (empty_before rows)) 0

-- "The nearest row with any pair is used", and it is the last of "The number of rows looked at"
unfoldable pub used_row : List (List Pair) → List Pair
used_row rows = get_or rows (empty_before rows) []

unfoldable pub rows_looked : List (List Pair) → ℕ
rows_looked rows = suc (empty_before rows)

-- "by those amounts": a user's, none of them negative (row 11)
abbrev pub row_weight : List Pair → ℕ → ℕ
row_weight ps n = nat_abs (beside (users_in ps) (amounts_in ps) n)

-- "Its users join, and net is prorated over them by those amounts, as revision. The stage is then allotted", and its net settled
unfoldable pub stood_in : List (List Pair) → Book → Book
stood_in rows b =
    let row = used_row rows in
    let newcomers = users_in row in
    with_allotted true (with_users (b.users ++ newcomers) (with_revision (part (net b) (row_weight row) newcomers) (with_settled (net b) b)))

-- ---- Revise

-- low to high
abbrev pub liesZ : ℤ → ℤ → ℤ → Bool
liesZ low high z = both (le_z low z) (le_z z high)

-- "If R lies in −100 to 100"
abbrev pub tolerated : Book → Bool
tolerated b = liesZ (neg_ℤ (pos TOLERANCE)) (pos TOLERANCE) (R b)

-- "Otherwise R is prorated by each user's whole amount", none of them negative (row 11)
abbrev pub gains : Book → ℕ → ℤ
gains b n = part (R b) (λ m. nat_abs (whole b m)) b.users n

-- ".. added to the revisions", and its net settled
unfoldable pub assigned : Book → Book
assigned b = with_revision (λ n. b.revision n +ℤ gains b n) (with_settled (net b) b)

-- within tolerance "nothing changes"
abbrev pub revised : Book → Book
revised b = pick (tolerated b) b (assigned b)

-- ---- Start-final: "next stage, entering. Users and measurement stay; all else is zero."

-- "Stages, in order: provisional, final provisional, final definitive"
abbrev pub next_stage : Stage → Stage
next_stage Provisional = FinalProvisional
next_stage FinalProvisional = FinalDefinitive
next_stage FinalDefinitive = FinalDefinitive

unfoldable pub restarted : Book → Book
restarted b =
    with_stage (next_stage b.stage)
    (with_allotted false (with_lines [] (with_balance (λ n kind. pos 0) (with_revision (λ n. pos 0) b))))

-- ---- what a call does

abbrev pub after : Call → Book → Book
after (join n) b = joined n b
after (line n kind c k) b = with_line (a_line n kind c k) b
after (lent_line n kind c k) b = with_line (a_line n kind c k) b
after (measure emission downstream) b = measured emission downstream b
after allot b = allotted b
after (stand_in rows) b = stood_in rows b
after revise b = revised b
after start_final b = restarted b

-- ---- which stage takes which call

abbrev pub is_provisional : Stage → Bool
is_provisional Provisional = true
is_provisional FinalProvisional = false
is_provisional FinalDefinitive = false

abbrev pub is_final_provisional : Stage → Bool
is_final_provisional Provisional = false
is_final_provisional FinalProvisional = true
is_final_provisional FinalDefinitive = false

-- the words in brackets after each call's name, of the stage and of whether it is allotted: each "is first entering, then allotted"
abbrev pub takes : Call → Stage → Bool → Bool
-- "Join (entering)", "Line (entering)"
takes (join n) stage allotted = not allotted
takes (line n kind c k) stage allotted = not allotted
takes (lent_line n kind c k) stage allotted = not allotted
-- "Measure (entering; provisional allotted)"
takes (measure emission downstream) stage allotted = either (not allotted) (both (is_provisional stage) allotted)
-- "Allot (entering)"
takes allot stage allotted = not allotted
-- "Stand-in (provisional entering ..)"
takes (stand_in rows) stage allotted = both (is_provisional stage) (not allotted)
-- "Revise (provisional allotted)"
takes revise stage allotted = both (is_provisional stage) allotted
-- "Start-final (provisional or final provisional allotted)"
takes start_final stage allotted = both (either (is_provisional stage) (is_final_provisional stage)) allotted

-- ---- stated ranges

-- low to high
abbrev pub lies : ℕ → ℕ → ℕ → Bool
lies low high n = both (leb low n) (leb n high)

-- users "numbered 1 to 65,535"
abbrev pub is_user : ℕ → Bool
is_user n = lies 1 LAST_NUMBER n

-- "user number .. and amount (−2,000,000,000 to 2,000,000,000)"
abbrev pub pair_right : Pair → Bool
pair_right p = both (is_user p.user) (liesZ (neg_ℤ (pos AMOUNT)) (pos AMOUNT) p.amount)

-- "each 0 to 64 pairs of user number (rising) and amount"
unfoldable pub row_in_range : List Pair → Bool
row_in_range ps = both (lies 0 USERS (length ps)) (both (every pair_right ps) (rising (users_in ps)))

-- "user, kind, consumption 0 to 1,000,000,000, loss coefficient 0 to 10,000"
abbrev pub line_in_range : Line → Bool
line_in_range l =
    both (is_user l.user) (both (lies 1 5 l.kind) (both (lies 0 LIMIT l.consumption) (lies 0 COEFFICIENT l.coefficient)))

abbrev pub in_range : Call → Bool
in_range (join n) = is_user n
in_range (line n kind c k) = line_in_range (a_line n kind c k)
in_range (lent_line n kind c k) = line_in_range (a_line n kind c k)
-- "emission and downstream emission, 0 to 1,000,000,000, downstream at most emission"
in_range (measure emission downstream) = both (lies 0 LIMIT emission) (both (lies 0 LIMIT downstream) (leb downstream emission))
in_range allot = true
-- "takes fifteen rows"
in_range (stand_in rows) = both (eqb (length rows) ROWS) (every row_in_range rows)
in_range revise = true
in_range start_final = true

-- ---- the table "Refusals"

-- a condition for one of the calls only
abbrev pub on_join : Call → (ℕ → Bool) → Bool
on_join c p = by_call p (λ l. false) (λ e w. false) false (λ rows. false) false false c

abbrev pub on_line : Call → (Line → Bool) → Bool
on_line c p = by_call (λ n. false) p (λ e w. false) false (λ rows. false) false false c

abbrev pub on_allot : Call → Bool → Bool
on_allot c p = by_call (λ n. false) (λ l. false) (λ e w. false) p (λ rows. false) false false c

abbrev pub on_stand_in : Call → (List (List Pair) → Bool) → Bool
on_stand_in c p = by_call (λ n. false) (λ l. false) (λ e w. false) false p false false c

abbrev pub on_revise : Call → Bool → Bool
on_revise c p = by_call (λ n. false) (λ l. false) (λ e w. false) false (λ rows. false) p false c

abbrev pub no_user : Book → Bool
no_user b = eqb (length b.users) 0

abbrev pub some_negative : List ℤ → Bool
some_negative zs = not (every (le_z (pos 0)) zs)

-- "revise outside tolerance", by whole amounts one of which is negative
abbrev pub negative_outside : Book → Bool
negative_outside b = both (not (tolerated b)) (some_negative (map (whole b) b.users))

abbrev pub some_too_large : Book → Bool
some_too_large b = not (every (λ n. liesZ (neg_ℤ (pos AMOUNT)) (pos AMOUNT) (whole b n)) b.users)

-- row by row, each with the calls that it names
unfoldable pub refusals : Call → Book → List Test
refusals c b =
    -- "the stage doesn't take the call, or a stand-in finds a user joined"
    (1 when either (not (takes c b.stage b.allotted)) (on_stand_in c (λ rows. not (no_user b))))
    -- "a value or list outside its stated range"
    ∷ (2 when not (in_range c))
    -- "line for a user not joined"
    ∷ (3 when on_line c (λ l. not (has l.user b.users)))
    -- "user already joined"
    ∷ (4 when on_join c (λ n. has n b.users))
    -- "all 64 users joined"
    ∷ (5 when on_join c (λ n. eqb (length b.users) USERS))
    -- "point-day sum .. above 1,000,000,000"
    ∷ (6 when on_line c (λ l. ltb LIMIT (point_sum (with_line l b))))
    -- "allot or stand-in unmeasured"
    ∷ (7 when either (on_allot c (unmeasured b.measurement)) (on_stand_in c (λ rows. unmeasured b.measurement)))
    -- "allot with no user"
    ∷ (8 when on_allot c (no_user b))
    -- "stand-in with net at most 100"
    ∷ (9 when on_stand_in c (λ rows. le_z (net b) (pos TOLERANCE)))
    -- "no pair in fifteen rows"
    ∷ (10 when on_stand_in c (λ rows. every is_empty rows))
    -- "a weight is negative (revise outside tolerance, stand-in ..)"
    ∷ (11 when either (on_revise c (negative_outside b)) (on_stand_in c (λ rows. some_negative (amounts_in (used_row rows)))))
    -- "a whole amount would pass 2,000,000,000 in size"
    ∷ (12 when some_too_large (after c b))
    ∷ []

-- "If several apply, the row higher up decides"
abbrev pub book_verdict : Call → Book → Verdict
book_verdict c b = verdict (refusals c b)

-- ---- the book after a list of calls

-- "a refused call changes nothing"
abbrev pub by_verdict : Verdict → Call → Book → Book
by_verdict (refuse n) c b = b
by_verdict accept c b = after c b

unfoldable pub book : Calls → Book
book none = fresh_book
book (cs then c) = by_verdict (book_verdict c (book cs)) c (book cs)

-- its refusals, the last call's first
unfoldable pub verdicts : Calls → List Verdict
verdicts none = []
verdicts (cs then c) = book_verdict c (book cs) ∷ verdicts cs

-- ---- what it would answer

-- the values that document 01 names
abbrev pub values : Call → Book → Answer
values (join n) b = done
-- "answers the losses added"
values (line n kind c k) b = losses_added (losses_of (a_line n kind c k))
values (lent_line n kind c k) b = losses_added (losses_of (a_line n kind c k))
values (measure emission downstream) b = done
values allot b = done
-- "The number of rows looked at is in the result"
values (stand_in rows) b = rows_looked_at (rows_looked rows)
-- "R is returned with «within tolerance». Otherwise R is prorated .. and returned"
values revise b = pick (tolerated b) (within_tolerance (R b)) (revision_assigned (R b))
values start_final b = done

abbrev pub answer_by : Verdict → Call → Book → Answer
answer_by (refuse n) c b = refused n
answer_by accept c b = values c b

-- the last call's first
unfoldable pub book_answers : Calls → List Answer
book_answers none = []
book_answers (cs then c) = answer_by (book_verdict c (book cs)) c (book cs) ∷ book_answers cs
