-- Book and point-day go together: after every list of calls the point-day is the day that the book describes, laid out. Assumes nothing.
use mathlib.Core.Path.{◌≡◌, refl, sym, ap, ap₂, ◌∙◌, subst, subst⁻¹}
use mathlib.Core.Bool.{Bool, true, false}
use mathlib.Core.List.{List, [], ◌∷◌, ◌++◌}
use native.Mathlib.Omega.{arith}
use Prim.Native.Nat.{ℕ}
use lib.Dec.{eqb}
use lib.IntN.{pos}
use borrow.Author.Tests.{not-false}
use Rattle.numbers.specs.Sums.{pick, total}
use Rattle.numbers.specs.Lists.{either, has, distinct}
use Rattle.numbers.proofs.Lists.{All, true≢false, never, all_map}
use Rattle.point_day.specs.Day.{Day, fresh}
use Rattle.point_day.specs.Calls.{Verdict, refuse, accept, verdict}
use Rattle.point_day.specs.Struct.{read, laid, Outcome, outcome, by, called}
use Rattle.point_day.proofs.Good.{Good, bare_good, read_good, accepted}
use Rattle.day_book.specs.Run.{Call, join, line, lent_line, measure, allot, stand_in, revise, start_final, Calls, none, ◌then◌, move}
use Rattle.day_book.specs.Run.{run, answer_after}
use Rattle.day_book.specs.Book.{Book, fresh_book, net, joined, with_line, measured, allotted, used_row, users_in, stood_in}
use Rattle.day_book.specs.Book.{tolerated, assigned, restarted, after, refusals, book_verdict, by_verdict, book}
use Rattle.day_book.specs.Book.{answer_by}
use Rattle.day_book.specs.Described.{day_of}
use Rattle.day_book.proofs.Keeps.{settled_after, revise_allotted, good_after, called_good}
use Rattle.day_book.proofs.Figures.{net_day}
use Rattle.day_book.proofs.Agreeing.{Kept, measured_right, Agree}
use Rattle.day_book.proofs.Entering.{join_agrees, line_agrees, lent_line_agrees, measure_agrees, start_final_agrees}
use Rattle.day_book.proofs.Sharing.{allot_agrees, stand_in_agrees, tolerated_is, revise_agrees}

-- ---- each call

pub agrees : (c : Call) (b : Book) → Kept b → Agree c b
agrees (join n) b h = join_agrees n b h
agrees (line n kind c k) b h = line_agrees n kind c k b h
agrees (lent_line n kind c k) b h = lent_line_agrees n kind c k b h
agrees (measure emission downstream) b h = measure_agrees emission downstream b h
agrees allot b h = allot_agrees b h
agrees (stand_in rows) b h = stand_in_agrees rows b h
agrees revise b h = revise_agrees b h
agrees start_final b h = start_final_agrees b h

has_more : (n : ℕ) (xs ys : List ℕ) → has n xs ≡ true → has n (xs ++ ys) ≡ true
unfolding has
has_more n [] ys e = never e
has_more n (x ∷ xs) ys e = go (eqb n x) e (has_more n xs ys)
  where
    go : (p : Bool) → either p (has n xs) ≡ true → (has n xs ≡ true → has n (xs ++ ys) ≡ true) → either p (has n (xs ++ ys)) ≡ true
    go true h r = refl
    go false h r = r h

-- ---- an accepted call keeps the book's invariant

module _ (b : Book) (h : Kept b) where
  abbrev d : Day
  d = day_of b

  pub passed : (c : Call) → book_verdict c b ≡ accept → verdict (move c d).tests ≡ accept
  passed c v = sym (agrees c b h).verdicts ∙ v

  stands : book_verdict revise b ≡ accept → b.allotted ≡ true
  stands v = unfold day_of in revise_allotted d (passed revise v)

  settled_is : (c : Call) → book_verdict c b ≡ accept → settled_after c d b.settled ≡ (after c b).settled
  unfolding joined with_line measured allotted stood_in assigned restarted
  settled_is (join n) v = refl
  settled_is (line n kind c k) v = refl
  settled_is (lent_line n kind c k) v = refl
  settled_is (measure emission downstream) v = refl
  settled_is allot v = net_day b (measured_right b h)
  settled_is (stand_in rows) v = net_day b (measured_right b h)
  settled_is revise v =
      ap₂ (λ p z. pick p b.settled z) (sym (tolerated_is b h (stands v))) (net_day b (measured_right b h)) ∙ go (tolerated b)
    where
      go : (p : Bool) → pick p b.settled (net b) ≡ (pick p b (assigned b)).settled
      go true = refl
      go false = refl
  settled_is start_final v = refl

  more_users : (ns : List ℕ) → All (λ l. has l.user (b.users ++ ns) ≡ true) b.lines
  more_users ns = all_map (λ l. has l.user b.users ≡ true) _ (λ l e. has_more l.user b.users ns e) b.lines h.named

  line_named : (n kind c k : ℕ) → book_verdict (line n kind c k) b ≡ accept → has n b.users ≡ true
  unfolding refusals
  line_named n kind c k v = not-false _ (accepted (refusals (line n kind c k) b) v).1.1.0

  named_after : (c : Call) → book_verdict c b ≡ accept → All (λ l. has l.user (after c b).users ≡ true) (after c b).lines
  unfolding joined with_line measured allotted stood_in assigned restarted
  named_after (join n) v = more_users (n ∷ [])
  named_after (line n kind c k) v = (line_named n kind c k v, h.named)
  named_after (lent_line n kind c k) v = (line_named n kind c k (unfold refusals in v), h.named)
  named_after (measure emission downstream) v = h.named
  named_after allot v = h.named
  named_after (stand_in rows) v = more_users (users_in (used_row rows))
  named_after revise v = go (tolerated b)
    where
      go : (p : Bool) → All (λ l. has l.user (pick p b (assigned b)).users ≡ true) (pick p b (assigned b)).lines
      go true = h.named
      go false = h.named
  named_after start_final v = tt

  bare_after : (c : Call) → book_verdict c b ≡ accept → (after c b).allotted ≡ false
      → (n : ℕ) → ((kind : ℕ) → (after c b).balance n kind ≡ pos 0) × ((after c b).revision n ≡ pos 0)
  unfolding joined with_line measured allotted stood_in assigned restarted
  bare_after (join n) v e = h.bare e
  bare_after (line n kind c k) v e = h.bare e
  bare_after (lent_line n kind c k) v e = h.bare e
  bare_after (measure emission downstream) v e = h.bare e
  bare_after allot v e = true≢false e
  bare_after (stand_in rows) v e = true≢false e
  bare_after revise v e = true≢false (sym (stands v) ∙ go (tolerated b) e)
    where
      go : (p : Bool) → (pick p b (assigned b)).allotted ≡ false → b.allotted ≡ false
      go true e = e
      go false e = e
  bare_after start_final v e = λ n. (λ kind. refl, refl)

  kept_accepted : (c : Call) → book_verdict c b ≡ accept → Kept (after c b)
  kept_accepted c v =
      let g = good_after d b.settled h.good c (passed c v) in
      record {
        good =
            subst (Good (day_of (after c b))) (settled_is c v)
            (subst⁻¹ (λ x. Good x (settled_after c d b.settled)) ((agrees c b h).days (passed c v)) g);
        named = named_after c v;
        bare = bare_after c v;
      }

  kept_by : (c : Call) (v : Verdict) → book_verdict c b ≡ v → Kept (by_verdict v c b)
  kept_by c (refuse n) e = h
  kept_by c accept e = kept_accepted c e

  -- the point-day's call does and answers what the book does and would answer
  pub called_is : (c : Call) → let v = book_verdict c b in
      called (move c) (laid d) ≡ outcome (answer_by v c b) (laid (day_of (by_verdict v c b)))
  called_is c =
      called_good d b.settled h.good (move c)
      ∙ ap (λ v. by v (move c d) (laid d)) (sym (agrees c b h).verdicts)
      ∙ go (book_verdict c b) refl
    where
      go : (v : Verdict) → book_verdict c b ≡ v → by v (move c d) (laid d) ≡ outcome (answer_by v c b) (laid (day_of (by_verdict v c b)))
      go (refuse n) e = refl
      go accept e = ap₂ outcome (sym ((agrees c b h).answers (passed c e))) (ap laid (sym ((agrees c b h).days (passed c e))))

-- ---- after every list of calls

fresh_kept : Kept fresh_book
unfolding fresh_book day_of distinct total
fresh_kept = record {
  good = bare_good (day_of fresh_book) (pos 0) refl (omega arith) refl refl tt tt (omega arith);
  named = tt;
  bare = λ e n. (λ kind. refl, refl);
}

pub book_kept : (cs : Calls) → Kept (book cs)
unfolding book
book_kept none = fresh_kept
book_kept (cs then c) = kept_by (book cs) (book_kept cs) c (book_verdict c (book cs)) refl

pub run_is : (cs : Calls) → run cs ≡ laid (day_of (book cs))
unfolding run book
run_is none = unfold fresh fresh_book day_of in refl
run_is (cs then c) = ap (λ d. (called (move c) d).day) (run_is cs) ∙ ap (λ (o : Outcome). o.day) (called_is (book cs) (book_kept cs) c)

pub answer_is : (cs : Calls) (c : Call) → answer_after cs c ≡ answer_by (book_verdict c (book cs)) c (book cs)
answer_is cs c = ap (λ d. (called (move c) d).answer) (run_is cs) ∙ ap (λ (o : Outcome). o.answer) (called_is (book cs) (book_kept cs) c)

pub read_is : (cs : Calls) → read (run cs) ≡ day_of (book cs)
read_is cs = ap read (run_is cs) ∙ read_good (day_of (book cs)) (book cs).settled (book_kept cs).good
