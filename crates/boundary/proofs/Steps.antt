-- A call on the plain numbers of the day that a book describes: it says what the book would answer, and leaves the plain numbers of the
-- day that the book describes then. Assumes nothing.
use mathlib.Core.Path.{◌≡◌, refl, ap, ◌∙◌, subst⁻¹}
use mathlib.Core.Bool.{Bool, true, false}
use mathlib.Core.List.{List}
use Prim.Native.Nat.{ℕ, zero, suc, ◌-◌}
use native.Mathlib.Omega.{arith}
use lib.IntN.{ℤ}
use lib.ListN.{length, replicate}
use Rattle.numbers.specs.Sums.{pick}
use Rattle.numbers.proofs.Lists.{All, all_append}
use Rattle.point_day.specs.Limits.{USERS}
use Rattle.point_day.specs.Day.{is_measured, numbers}
use Rattle.point_day.specs.Answers.{within_tolerance, revision_assigned}
use Rattle.point_day.specs.Calls.{Verdict, refuse, accept}
use Rattle.point_day.specs.Struct.{padded, laid, Outcome, called}
use Rattle.plain_day.specs.Layout.{stored, numbers_of}
use Rattle.plain_day.specs.Plain.{plain, given, plain_call}
use Rattle.plain_day.proofs.ReadBack.{Stores, next_call, stored_over}
use Rattle.day_book.specs.Calls.{Call, join, line, lent_line, measure, allot, stand_in, revise, start_final}
use Rattle.day_book.specs.Run.{move}
use Rattle.day_book.specs.Book.{Book, R, joined, with_line, measured, stood_in, tolerated, assigned, restarted, after, book_verdict, by_verdict, answer_by}
use Rattle.day_book.specs.Book as own
use Rattle.day_book.specs.Described.{day_of}
use Rattle.day_book.proofs.Figures.{numbers_is}
use Rattle.day_book.proofs.Agreeing.{Kept}
use Rattle.day_book.proofs.Placed.{holds}
use Rattle.day_book.proofs.Books.{called_is}
use Rattle.boundary.specs.Boundary.{status_of, values_of}
use Rattle.boundary.proofs.Named.{Low}

zeros_low : (n : ℕ) → All Low (replicate n 0)
zeros_low zero = tt
zeros_low (suc n) = (omega arith, zeros_low n)

module _ (b : Book) (h : Kept b) (low : All Low b.users) where
  padded_low : All Low (padded USERS 0 (numbers (day_of b).users))
  unfolding padded
  padded_low =
      let ns = numbers (day_of b).users in
      all_append Low ns (replicate (USERS - length ns) 0) (subst⁻¹ (All Low) (numbers_is b) low) (zeros_low (USERS - length ns))

  pub stores : Stores (laid (day_of b))
  stores = record {
    sized = (holds b h).sized;
    few = unfold laid in h.good.few;
    users = unfold laid in padded_low;
    measurement = unfold laid in h.good.measurement;
  }

  -- a call keeps the measurement or sets it
  still_measured : (c : Call) → is_measured b.measurement ≡ true → is_measured (after c b).measurement ≡ true
  unfolding joined with_line measured own.allotted stood_in assigned restarted
  still_measured (join n) e = e
  still_measured (line n kind c k) e = e
  still_measured (lent_line n kind c k) e = e
  still_measured (measure emission downstream) e = refl
  still_measured allot e = e
  still_measured (stand_in rows) e = e
  still_measured revise e = go (tolerated b)
    where
      go : (p : Bool) → is_measured (pick p b (assigned b)).measurement ≡ true
      go true = e
      go false = e
  still_measured start_final e = e

  abbrev xs : List ℤ
  xs = numbers_of (laid (day_of b))

  over : (b' : Book) → (is_measured b.measurement ≡ true → is_measured b'.measurement ≡ true)
      → stored (laid (day_of b')) xs ≡ numbers_of (laid (day_of b'))
  over b' k = stored_over (laid (day_of b)) (laid (day_of b')) (unfold laid day_of in k)

  module _ (vs : List ℤ) where
    -- what the book would say, and the numbers of the day that it describes after the call
    abbrev Gives : Verdict → Call → Type 0
    Gives v c =
        given (answer_by v c b) (laid (day_of (by_verdict v c b))) vs xs
        ≡ plain (status_of (answer_by v c b)) (values_of (answer_by v c b) vs) (numbers_of (laid (day_of (by_verdict v c b))))

    gives_accepted : (c : Call) → Gives accept c
    gives_accepted (join n) = ap (plain 0 vs) (over (after (join n) b) (still_measured (join n)))
    gives_accepted (line n kind c k) = ap (plain 0 _) (over (after (line n kind c k) b) (still_measured (line n kind c k)))
    gives_accepted (lent_line n kind c k) = ap (plain 0 _) (over (after (lent_line n kind c k) b) (still_measured (lent_line n kind c k)))
    gives_accepted (measure emission downstream) = ap (plain 0 vs) (over (after (measure emission downstream) b) (still_measured (measure emission downstream)))
    gives_accepted allot = ap (plain 0 vs) (over (after allot b) (still_measured allot))
    gives_accepted (stand_in rows) = ap (plain 0 _) (over (after (stand_in rows) b) (still_measured (stand_in rows)))
    gives_accepted revise = go (tolerated b) (still_measured revise)
      where
        go : (p : Bool) → (is_measured b.measurement ≡ true → is_measured (pick p b (assigned b)).measurement ≡ true)
            → given (pick p (within_tolerance (R b)) (revision_assigned (R b))) (laid (day_of (pick p b (assigned b)))) vs xs
            ≡ plain (status_of (pick p (within_tolerance (R b)) (revision_assigned (R b)))) (values_of (pick p (within_tolerance (R b)) (revision_assigned (R b))) vs) (numbers_of (laid (day_of (pick p b (assigned b)))))
        go true k = refl
        go false k = ap (plain 0 _) (over (assigned b) k)
    gives_accepted start_final = ap (plain 0 vs) (over (after start_final b) (still_measured start_final))

    gives : (v : Verdict) (c : Call) → Gives v c
    gives (refuse n) c = refl
    gives accept c = gives_accepted c

    pub step : (c : Call) → let v = book_verdict c b in
        plain_call (called (move c)) vs xs
        ≡ plain (status_of (answer_by v c b)) (values_of (answer_by v c b) vs) (numbers_of (laid (day_of (by_verdict v c b))))
    step c =
        next_call (laid (day_of b)) stores (called (move c)) vs
        ∙ ap (λ (o : Outcome). given o.answer o.day vs xs) (called_is b h c)
        ∙ gives (book_verdict c b) c
