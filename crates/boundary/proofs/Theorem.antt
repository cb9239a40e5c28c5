-- What the calls on one lent list of plain numbers say and leave is the book's. Assumes nothing.
use mathlib.Core.Path.{◌≡◌, refl, sym, ap, ap₂, ◌∙◌}
use mathlib.Core.Bool.{Bool, true, false}
use mathlib.Core.List.{List, [], ◌∷◌, map, zip_with}
use Prim.Native.Nat.{ℕ}
use native.Mathlib.Omega.{arith}
use lib.Dec.{eqb}
use lib.IntN.{ℤ, pos}
use lib.ListN.{length}
use contract.Lifetimes.{Lfts}
use borrow.Author.Tests.{eq-eqb}
use Rattle.numbers.specs.Sums.{pick}
use Rattle.point_day.specs.Day.{fresh}
use Rattle.point_day.specs.Struct.{laid, called, rows_of}
use Rattle.stand_in.specs.Rows.{rows_in}
use Rattle.plain_day.specs.Layout.{LENGTH, day_in, numbers_of}
use Rattle.plain_day.specs.Plain.{Plain, plain, plain_call, plain_fresh}
use Rattle.plain_day.proofs.ReadBack.{read_back}
use Rattle.day_book.specs.Calls as call
use Rattle.day_book.specs.Calls.{Call, Calls, none, ◌then◌}
use Rattle.day_book.specs.Run.{run, move}
use Rattle.day_book.specs.Book.{fresh_book, book, book_answers}
use Rattle.day_book.specs.Described.{day_of}
use Rattle.day_book.proofs.Books.{book_kept, run_is}
use Rattle.day_book.proofs.Theorem.{demand_3}
use Rattle.boundary.specs.Boundary.{Numbers, Fresh, Said, said, Results, fresh_day, join, line, measure, allot, stand_in, revise, start_final, answered, Boundary}
use Rattle.boundary.proofs.Named.{named}
use Rattle.boundary.proofs.Steps.{stores, step}

-- the numbers are those of the point-day of demand 3
abbrev Are : Calls → List ℤ → Type 0
Are cs xs = xs ≡ numbers_of (laid (day_of (book cs)))

read_is : (cs : Calls) (xs : List ℤ) → Are cs xs → day_in xs ≡ run cs
read_is cs xs e = ap day_in e ∙ read_back (laid (day_of (book cs))) (stores (book cs) (book_kept cs) (named cs)) ∙ sym (run_is cs)

abbrev Answer : Calls → List Said → Type 0
Answer cs ss = ss ≡ zip_with answered (book_answers cs) (map (λ (s : Said). s.before) ss)

both_of : (cs : Calls) (ss : List Said) (xs : List ℤ) → Answer cs ss → Are cs xs → Boundary cs ss xs
both_of cs ss xs a e = record { answers = a; numbers = e; point_day = read_is cs xs e; demand = demand_3 cs }

-- ---- fresh

begun : (p : Bool) (xs ys : List ℤ) → plain 0 [] ys ≡ pick p (plain 0 [] (numbers_of (laid fresh))) (plain 2 [] xs) → ys ≡ numbers_of (laid fresh)
begun true xs ys e = ap (λ (p : Plain). p.numbers) e
begun false xs ys e = absurd (let z : ◌≡◌ {A = ℕ} 0 2 = ap (λ (p : Plain). p.status) e in omega (arith, z))

begins : (xs ys : List ℤ) → plain 0 [] ys ≡ plain_fresh xs → Boundary none [] ys
begins xs ys e =
    both_of none [] ys (unfold book_answers zip_with in refl)
    (begun (eqb (length xs) LENGTH) xs ys (unfold plain_fresh in e) ∙ (unfold book fresh_book fresh day_of in refl))

-- of 1,094 numbers fresh makes a point-day
pub fresh_accepts : (κs : Lfts 1) (day day' : Numbers) (r : ℕ) → length day.now ≡ LENGTH → Fresh κs day r day' → r ≡ 0
fresh_accepts κs day day' r l e =
    ap (λ (p : Plain). p.status) e
    ∙ (unfold plain_fresh in ap (λ p. (pick p (plain 0 [] (numbers_of (laid fresh))) (plain 2 [] day.now)).status) (eq-eqb (length day.now) LENGTH l))

-- ---- each call

next : (cs : Calls) (ss : List Said) (xs : List ℤ) → Boundary cs ss xs → (c : Call) (r : ℕ) (vs ws ys : List ℤ)
    → plain r ws ys ≡ plain_call (called (move c)) vs xs → Boundary (cs then c) (said r vs ws ∷ ss) ys
unfolding book book_answers zip_with
next cs ss xs h c r vs ws ys e =
    let o = e ∙ ap (plain_call (called (move c)) vs) h.numbers ∙ step (book cs) (book_kept cs) (named cs) vs c in
    both_of (cs then c) (said r vs ws ∷ ss) ys
    (ap₂ ◌∷◌ (ap (λ (p : Plain). said p.status vs p.values) o) h.answers)
    (ap (λ (p : Plain). p.numbers) o)

-- ---- after every list of calls

pub demand_3_at_the_boundary : {cs : Calls} {ss : List Said} {xs : List ℤ} → Results cs ss xs → Boundary cs ss xs
demand_3_at_the_boundary (fresh_day κs day day' e) = begins day.now day'.now e
demand_3_at_the_boundary (join {cs} {ss} κs day day' h user r e) =
    next cs ss day.now (demand_3_at_the_boundary h) (call.join user) r [] [] day'.now e
demand_3_at_the_boundary (line {cs} {ss} κs day day' h user kind c k r losses losses' e) =
    next cs ss day.now (demand_3_at_the_boundary h) (call.line user kind c k) r (pos losses.now ∷ []) (pos losses'.now ∷ []) day'.now e
demand_3_at_the_boundary (measure {cs} {ss} κs day day' h emission downstream r e) =
    next cs ss day.now (demand_3_at_the_boundary h) (call.measure emission downstream) r [] [] day'.now e
demand_3_at_the_boundary (allot {cs} {ss} κs day day' h r e) = next cs ss day.now (demand_3_at_the_boundary h) call.allot r [] [] day'.now e
demand_3_at_the_boundary (stand_in {cs} {ss} κs day day' h counts users amounts r rows rows' e) =
    next cs ss day.now (demand_3_at_the_boundary h) (call.stand_in (rows_of (rows_in counts.now users.now amounts.now))) r
    (pos rows.now ∷ []) (pos rows'.now ∷ []) day'.now e
demand_3_at_the_boundary (revise {cs} {ss} κs day day' h r within within' amount amount' e) =
    next cs ss day.now (demand_3_at_the_boundary h) call.revise r (pos within.now ∷ amount.now ∷ []) (pos within'.now ∷ amount'.now ∷ [])
    day'.now e
demand_3_at_the_boundary (start_final {cs} {ss} κs day day' h r e) =
    next cs ss day.now (demand_3_at_the_boundary h) call.start_final r [] [] day'.now e
