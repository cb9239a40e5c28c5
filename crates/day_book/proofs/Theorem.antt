-- Demand 3 holds of every list of calls; laws beside it. Assumes nothing.
use mathlib.Core.Path.{◌≡◌, refl, sym, ap, ap₂, ◌∙◌, subst⁻¹}
use mathlib.Core.Bool.{Bool, true, false}
use mathlib.Core.List.{List, [], ◌∷◌, map}
use Prim.Native.Nat.{◌≤◌}
use lib.IntN.{nat_abs, ◌-ℤ◌}
use Rattle.numbers.specs.Sums.{pick}
use Rattle.numbers.proofs.Lists.{never, both_fst, both_snd}
use Rattle.point_day.specs.Day as day
use Rattle.point_day.specs.Day.{Day, all_whole}
use Rattle.point_day.specs.Answers.{Answer, within_tolerance, revision_assigned}
use Rattle.point_day.specs.Calls.{Verdict, refuse, accept}
use Rattle.point_day.specs.Struct.{read, Outcome, called}
use Rattle.point_day.specs.declared.PointDay.{PointDay}
use Rattle.point_day.proofs.Good.{allotted, good_sound}
use Rattle.point_day.proofs.Bounds.{revise_close}
use Rattle.day_book.specs.Calls.{Line, by_call}
use Rattle.day_book.specs.Run.{Call, join, line, lent_line, measure, allot, stand_in, revise, start_final, Calls, none, ◌then◌, move}
use Rattle.day_book.specs.Run.{run, answer_after, answers, Chain, begin, goes_on, verdict_of, accepts}
use Rattle.day_book.specs.Book.{TOLERANCE, Book, fresh_book, net_of, R, joined, with_line, measured, stood_in, tolerated, assigned, restarted}
use Rattle.day_book.specs.Book.{after, book_verdict, by_verdict, book, verdicts, values, answer_by, book_answers}
use Rattle.day_book.specs.Book as own
use Rattle.day_book.specs.Arrays.{everything, Holds}
use Rattle.day_book.specs.Shares.{CallShared}
use Rattle.day_book.specs.Claim.{stage_lines, AllShared, is_revise, ends_revised, Demand3, Returned}
use Rattle.day_book.specs.Described.{day_of}
use Rattle.day_book.specs.Leaves.{LeavesBy, AllLeft}
use Rattle.day_book.proofs.Figures.{net_day}
use Rattle.day_book.proofs.Agreeing.{Kept, measured_right}
use Rattle.day_book.proofs.Books.{agrees, passed, book_kept, run_is, answer_is, read_is}
use Rattle.day_book.proofs.Everything.{everything_laid}
use Rattle.day_book.proofs.Given.{shared_by}
use Rattle.day_book.proofs.Placed.{holds}
use Rattle.day_book.proofs.Left.{left_by}

-- ---- the same answers

answers_same : (cs : Calls) → answers cs ≡ book_answers cs
unfolding answers book_answers
answers_same none = refl
answers_same (cs then c) = ap₂ ◌∷◌ (answer_is cs c) (answers_same cs)

-- an accepted call's answer is no refusal
values_accept : (c : Call) (b : Book) → verdict_of (values c b) ≡ accept
values_accept (join n) b = refl
values_accept (line n kind c k) b = refl
values_accept (lent_line n kind c k) b = refl
values_accept (measure emission downstream) b = refl
values_accept allot b = refl
values_accept (stand_in rows) b = refl
values_accept revise b = go (tolerated b)
  where
    go : (p : Bool) → verdict_of (pick p (within_tolerance (R b)) (revision_assigned (R b))) ≡ accept
    go true = refl
    go false = refl
values_accept start_final b = refl

verdict_by : (v : Verdict) (c : Call) (b : Book) → verdict_of (answer_by v c b) ≡ v
verdict_by (refuse n) c b = refl
verdict_by accept c b = values_accept c b

verdict_is : (cs : Calls) (c : Call) → verdict_of (answer_after cs c) ≡ book_verdict c (book cs)
verdict_is cs c = ap verdict_of (answer_is cs c) ∙ verdict_by (book_verdict c (book cs)) c (book cs)

-- ---- the same figures

holds_same : (cs : Calls) → Holds (run cs) (book cs)
holds_same cs = subst⁻¹ (λ d. Holds d (book cs)) (run_is cs) (holds (book cs) (book_kept cs))

-- ---- the lines of the stage

-- the book's lines after a call that it does
abbrev lines_after : Call → List Line → List Line
lines_after c ls = by_call (λ n. ls) (λ l. l ∷ ls) (λ e w. ls) ls (λ rows. ls) ls [] c

lines_of : (c : Call) (b : Book) → (after c b).lines ≡ lines_after c b.lines
unfolding joined with_line measured own.allotted stood_in assigned restarted
lines_of (join n) b = refl
lines_of (line n kind c k) b = refl
lines_of (lent_line n kind c k) b = refl
lines_of (measure emission downstream) b = refl
lines_of allot b = refl
lines_of (stand_in rows) b = refl
lines_of revise b = go (tolerated b)
  where
    go : (p : Bool) → (pick p b (assigned b)).lines ≡ b.lines
    go true = refl
    go false = refl
lines_of start_final b = refl

lines_by : (v : Verdict) (c : Call) (b : Book) → (by_verdict v c b).lines ≡ pick (accepts v) (lines_after c b.lines) b.lines
lines_by (refuse n) c b = refl
lines_by accept c b = lines_of c b

lines_same : (cs : Calls) → (book cs).lines ≡ stage_lines cs
unfolding book stage_lines fresh_book
lines_same none = refl
lines_same (cs then c) =
    lines_by (book_verdict c (book cs)) c (book cs)
    ∙ ap₂ (λ v ls. pick (accepts v) (lines_after c ls) ls) (sym (verdict_is cs c)) (lines_same cs)

-- ---- the sum

sum_is : (cs : Calls) → everything (run cs) ≡ all_whole (day_of (book cs)).users
sum_is cs = ap everything (run_is cs) ∙ everything_laid (day_of (book cs))

settles : (cs : Calls) → (run cs).allotted ≡ true → all_whole (day_of (book cs)).users ≡ (book cs).settled
unfolding day_of
settles cs e = (allotted (day_of (book cs)) (book cs).settled (book_kept cs).good (sym (holds_same cs).allotted ∙ e)).adds_up

-- ---- the shares

call_shared : (cs : Calls) (c : Call) → CallShared c (answer_after cs c) (book cs) (run (cs then c))
unfolding book
call_shared cs c =
    let b = book cs in
    subst⁻¹ (λ a. CallShared c a b (run (cs then c))) (answer_is cs c)
    (shared_by b (book_kept cs) c (book_verdict c b) refl (run (cs then c)) (holds_same (cs then c)))

all_shared : (cs : Calls) → AllShared cs
unfolding AllShared
all_shared none = tt
all_shared (cs then c) = (all_shared cs, call_shared cs c)

-- ---- after an accepted revise

accepts_is : (v : Verdict) → accepts v ≡ true → v ≡ accept
accepts_is (refuse n) e = never e
accepts_is accept e = refl

abbrev Close : Day → Type 0
Close d = nat_abs (day.net d -ℤ all_whole d.users) ≤ TOLERANCE

close_revise : (b : Book) → Kept b → book_verdict revise b ≡ accept → Close (day_of (after revise b))
close_revise b h v =
    let w = passed b h revise v in
    let g = h.good in
    subst⁻¹ Close ((agrees revise b h).days w)
    (revise_close (day_of b) (good_sound (day_of b) b.settled g) (λ e. (allotted (day_of b) b.settled g e).some_user) TOLERANCE w)

closes : (cs : Calls) → ends_revised cs ≡ true → Close (day_of (book cs))
unfolding ends_revised
closes none e = never e
closes (cs then c) e =
    let accepted = accepts (verdict_of (answer_after cs c)) in
    go c (both_fst (is_revise c) accepted e) (sym (verdict_is cs c) ∙ accepts_is _ (both_snd (is_revise c) accepted e))
  where
    go : (c : Call) → is_revise c ≡ true
        → book_verdict c (book cs) ≡ accept → Close (day_of (book (cs then c)))
    go (join n) r v = never r
    go (line n kind c k) r v = never r
    go (lent_line n kind c k) r v = never r
    go (measure emission downstream) r v = never r
    go allot r v = never r
    go (stand_in rows) r v = never r
    go revise r v = unfold book in subst⁻¹ (λ v. Close (day_of (by_verdict v revise (book cs)))) v (close_revise (book cs) (book_kept cs) v)
    go start_final r v = never r

close_is : (cs : Calls) → Close (day_of (book cs)) → nat_abs (net_of (run cs).measurement -ℤ everything (run cs)) ≤ TOLERANCE
close_is cs h =
    let b = book cs in
    let net = ap net_of (holds_same cs).measurement ∙ sym (net_day b (measured_right b (book_kept cs))) in
    subst⁻¹ (λ z. nat_abs z ≤ TOLERANCE) (ap₂ ◌-ℤ◌ net (sum_is cs)) h

-- ---- the claim

pub demand_3 : (cs : Calls) → Demand3 cs
demand_3 cs = record {
  same_answers = answers_same cs;
  holds_the_same = holds_same cs;
  of_lines = lines_same cs;
  adds_up = λ e. sum_is cs ∙ settles cs e;
  shares = all_shared cs;
  close = λ e. close_is cs (closes cs e);
}

-- ---- the same of results

chain_is : {cs : Calls} {ss : List Answer} {d : PointDay} → Chain cs ss d → (ss ≡ answers cs) × (d ≡ run cs)
unfolding run answers
chain_is begin = (refl, refl)
chain_is (goes_on r c e) =
    let h = chain_is r in
    let o = e ∙ ap (called (move c)) h.1 in
    (ap₂ ◌∷◌ (ap (λ (o : Outcome). o.answer) o) h.0, ap (λ (o : Outcome). o.day) o)

pub demand_3_of_results : {cs : Calls} {ss : List Answer} {d : PointDay} → Chain cs ss d → Returned cs ss d
demand_3_of_results {cs} r = record { the_answers = (chain_is r).0; the_day = (chain_is r).1; demand = demand_3 cs }

-- ---- laws beside it

-- the book's refusals
pub same_refusals : (cs : Calls) → map verdict_of (answers cs) ≡ verdicts cs
unfolding answers verdicts
same_refusals none = refl
same_refusals (cs then c) = ap₂ ◌∷◌ (verdict_is cs c) (same_refusals cs)

-- the day that the point-day holds adds up to the settled net
pub whole_amounts_add_up : (cs : Calls) → (run cs).allotted ≡ true → all_whole (read (run cs)).users ≡ (book cs).settled
whole_amounts_add_up cs e = ap (λ (d : Day). all_whole d.users) (read_is cs) ∙ settles cs e

-- what each call left
pub all_left : (cs : Calls) → AllLeft cs
unfolding AllLeft book
all_left none = tt
all_left (cs then c) = (all_left cs, call_left)
  where
    call_left : LeavesBy (answer_after cs c) c (read (run cs)) (read (run (cs then c)))
    call_left =
        subst⁻¹ (λ a. LeavesBy a c (read (run cs)) (read (run (cs then c)))) (answer_is cs c)
        (subst⁻¹ (λ d. LeavesBy (answer_by (book_verdict c (book cs)) c (book cs)) c d (read (run (cs then c)))) (read_is cs)
        (subst⁻¹ (λ d. LeavesBy (answer_by (book_verdict c (book cs)) c (book cs)) c (day_of (book cs)) d) (read_is (cs then c))
        (left_by c (book_verdict c (book cs)) (book cs))))
