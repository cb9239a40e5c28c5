-- Demand 3 for programs in other languages: the point-day's calls one after the other on one lent list of plain numbers, from fresh on.
-- Each step is what the function's own contract says: `Learnt` of a function is its `ensures`, as the toolchain reads it for a caller.
-- Assumes nothing.
use Rattle.std.specs.Prelude.{◌≡◌, ℕ, ℤ, pos}
use mathlib.Core.List.{List, [], ◌∷◌, map, zip_with}
use contract.Lifetimes.{Lfts}
use Rattle.std.specs.Borrow.{Bor, MutBor}
use Rattle.point_day.specs.Answers.{Answer, refused, done, losses_added, rows_looked_at, within_tolerance, revision_assigned}
use Rattle.point_day.specs.Struct.{laid, rows_of}
use Rattle.stand_in.specs.Rows.{rows_in}
use Rattle.plain_day.specs.Layout.{day_in, numbers_of}
use Rattle.seatpomelo.proofs.seatpomelo_fresh.Reads as fresh
use Rattle.seatpomelo.proofs.seatpomelo_join.Reads as joined
use Rattle.seatpomelo.proofs.seatpomelo_line.Reads as lined
use Rattle.seatpomelo.proofs.seatpomelo_measure.Reads as measured
use Rattle.seatpomelo.proofs.seatpomelo_allot.Reads as allotted
use Rattle.seatpomelo.proofs.seatpomelo_stand_in.Reads as stood_in
use Rattle.seatpomelo.proofs.seatpomelo_revise.Reads as revised
use Rattle.seatpomelo.proofs.seatpomelo_start_final.Reads as restarted
use Rattle.day_book.specs.Calls as call
use Rattle.day_book.specs.Calls.{Calls, none, ◌then◌}
use Rattle.day_book.specs.Run.{run}
use Rattle.day_book.specs.Book.{book, book_answers}
use Rattle.day_book.specs.Described.{day_of}
use Rattle.day_book.specs.Claim.{Demand3}

-- ---- what each contract says: of the arguments, the status, and the arguments at exit. A reference has at exit what was written last
-- behind it; all else is as it was passed

-- the lent numbers of a point-day, and a lent number
abbrev pub Numbers : Type 0
Numbers = MutBor (List ℤ)

abbrev pub Number : Type 0
Number = MutBor ℕ

abbrev pub Fresh : Lfts 1 → Numbers → ℕ → Numbers → Type 0
Fresh κs day r day' = fresh.Learnt κs (day, tt) r (day', tt)

abbrev pub Joined : Lfts 1 → Numbers → ℕ → ℕ → Numbers → Type 0
Joined κs day user r day' = joined.Learnt κs (day, (user, tt)) r (day', (user, tt))

abbrev pub Lined : Lfts 2 → Numbers → ℕ → ℕ → ℕ → ℕ → Number → ℕ → Numbers → Number → Type 0
Lined κs day user kind c k losses r day' losses' =
    lined.Learnt κs (day, (user, (kind, (c, (k, (losses, tt)))))) r (day', (user, (kind, (c, (k, (losses', tt))))))

abbrev pub Measured : Lfts 1 → Numbers → ℕ → ℕ → ℕ → Numbers → Type 0
Measured κs day emission downstream r day' =
    measured.Learnt κs (day, (emission, (downstream, tt))) r (day', (emission, (downstream, tt)))

abbrev pub Allotted : Lfts 1 → Numbers → ℕ → Numbers → Type 0
Allotted κs day r day' = allotted.Learnt κs (day, tt) r (day', tt)

abbrev pub StoodIn : Lfts 3 → Numbers → Bor (List ℕ) → Bor (List ℕ) → Bor (List ℤ) → Number → ℕ → Numbers → Number → Type 0
StoodIn κs day counts users amounts rows r day' rows' =
    stood_in.Learnt κs (day, (counts, (users, (amounts, (rows, tt))))) r (day', (counts, (users, (amounts, (rows', tt)))))

abbrev pub Revised : Lfts 3 → Numbers → Number → MutBor ℤ → ℕ → Numbers → Number → MutBor ℤ → Type 0
Revised κs day within amount r day' within' amount' =
    revised.Learnt κs (day, (within, (amount, tt))) r (day', (within', (amount', tt)))

abbrev pub Restarted : Lfts 1 → Numbers → ℕ → Numbers → Type 0
Restarted κs day r day' = restarted.Learnt κs (day, tt) r (day', tt)

-- ---- one call after the other

-- a call's status, and the values behind its pointers before it and after it
pub record Said : Type 0 where
  pub status : ℕ
  pub before : List ℤ
  pub after : List ℤ

abbrev pub said : ℕ → List ℤ → List ℤ → Said
said n vs ws = record { status = n; before = vs; after = ws }

-- the calls, what they said (the last one first), and the numbers that the last one left: from a fresh point-day, each function gets the
-- numbers that the one before left, and what it gives is as its contract says
pub data Results : Calls → List Said → List ℤ → Type 0 where
  fresh_day : (κs : Lfts 1) (day day' : Numbers) → Fresh κs day 0 day' → Results none [] day'.now
  join : {cs : Calls} {ss : List Said} (κs : Lfts 1) (day day' : Numbers) → Results cs ss day.now → (user r : ℕ)
      → Joined κs day user r day' → Results (cs then call.join user) (said r [] [] ∷ ss) day'.now
  line : {cs : Calls} {ss : List Said} (κs : Lfts 2) (day day' : Numbers) → Results cs ss day.now → (user kind c k r : ℕ)
      (losses losses' : Number) → Lined κs day user kind c k losses r day' losses'
      → Results (cs then call.line user kind c k) (said r (pos losses.now ∷ []) (pos losses'.now ∷ []) ∷ ss) day'.now
  measure : {cs : Calls} {ss : List Said} (κs : Lfts 1) (day day' : Numbers) → Results cs ss day.now → (emission downstream r : ℕ)
      → Measured κs day emission downstream r day'
      → Results (cs then call.measure emission downstream) (said r [] [] ∷ ss) day'.now
  allot : {cs : Calls} {ss : List Said} (κs : Lfts 1) (day day' : Numbers) → Results cs ss day.now → (r : ℕ)
      → Allotted κs day r day' → Results (cs then call.allot) (said r [] [] ∷ ss) day'.now
  stand_in : {cs : Calls} {ss : List Said} (κs : Lfts 3) (day day' : Numbers) → Results cs ss day.now
      → (counts users : Bor (List ℕ)) (amounts : Bor (List ℤ)) (r : ℕ) (rows rows' : Number)
      → StoodIn κs day counts users amounts rows r day' rows'
      → Results (cs then call.stand_in (rows_of (rows_in counts.now users.now amounts.now)))
      (said r (pos rows.now ∷ []) (pos rows'.now ∷ []) ∷ ss) day'.now
  revise : {cs : Calls} {ss : List Said} (κs : Lfts 3) (day day' : Numbers) → Results cs ss day.now → (r : ℕ)
      (within within' : Number) (amount amount' : MutBor ℤ) → Revised κs day within amount r day' within' amount'
      → Results (cs then call.revise) (said r (pos within.now ∷ amount.now ∷ []) (pos within'.now ∷ amount'.now ∷ []) ∷ ss) day'.now
  start_final : {cs : Calls} {ss : List Said} (κs : Lfts 1) (day day' : Numbers) → Results cs ss day.now → (r : ℕ)
      → Restarted κs day r day' → Results (cs then call.start_final) (said r [] [] ∷ ss) day'.now

-- ---- the claim

-- 0, or the number of the refusal
abbrev pub status_of : Answer → ℕ
status_of (refused n) = n
status_of done = 0
status_of (losses_added l) = 0
status_of (rows_looked_at k) = 0
status_of (within_tolerance R) = 0
status_of (revision_assigned R) = 0

-- the values that the answer names: losses added; rows looked at; 1 if R is within the tolerance, 0 if it is assigned, and R. A refusal,
-- and an answer without values, leave those that were there before
abbrev pub values_of : Answer → List ℤ → List ℤ
values_of (refused n) vs = vs
values_of done vs = vs
values_of (losses_added l) vs = pos l ∷ []
values_of (rows_looked_at k) vs = pos k ∷ []
values_of (within_tolerance R) vs = pos 1 ∷ R ∷ []
values_of (revision_assigned R) vs = pos 0 ∷ R ∷ []

-- what a call says whose answer this is, if those values stood there before
abbrev pub answered : Answer → List ℤ → Said
answered a vs = said (status_of a) vs (values_of a vs)

pub record Boundary (cs : Calls) (ss : List Said) (xs : List ℤ) : Type 0 where
  -- statuses and values are the book's answers
  pub answers : ss ≡ zip_with answered (book_answers cs) (map (λ (s : Said). s.before) ss)
  -- the numbers are the plain numbers of the day that the book describes
  pub numbers : xs ≡ numbers_of (laid (day_of (book cs)))
  -- and of them the point-day is read of which demand 3 holds
  pub point_day : day_in xs ≡ run cs
  pub demand : Demand3 cs
