-- What it is for book and point-day to go together at a call, and laws that all calls share. Assumes nothing.
use mathlib.Core.Path.{◌≡◌, refl, sym, ap, ◌∙◌, subst}
use mathlib.Core.Bool.{Bool, true, false}
use mathlib.Core.List.{List, [], ◌∷◌}
use mathlib.Core.Logic.{⊎_elim}
use Prim.Native.Nat.{ℕ, ◌≤◌}
use native.Mathlib.Omega.{arith}
use lib.Dec.{leb, eqb}
use lib.IntN.{pos}
use lib.ListN.{length, length-map}
use borrow.Author.Tests.{eq-eqb, ne_eqb, le-leb, lt-leb}
use Rattle.numbers.specs.Sums.{pick}
use Rattle.numbers.specs.Lists.{has, distinct}
use Rattle.numbers.proofs.Lists.{All}
use Rattle.numbers.proofs.Sums.{lt_or_ge}
use Rattle.point_day.specs.Limits.{USERS}
use Rattle.point_day.specs.Day.{Day, too_large, measurement_right}
use Rattle.point_day.specs.Calls.{Test, Verdict, refuse, accept, verdict}
use Rattle.point_day.proofs.Wholes.{small_right}
use Rattle.point_day.proofs.Good.{Good}
use Rattle.day_book.specs.Run.{Call, move}
use Rattle.day_book.specs.Book.{Book, some_too_large, after, book_verdict}
use Rattle.day_book.specs.Book.{values}
use Rattle.day_book.specs.Described.{user_of, day_of}
use Rattle.day_book.proofs.Keeps.{good_after}
use Rattle.day_book.proofs.Figures.{numbers_is, too_large_is}

-- ---- the invariant of the book

pub record Kept (b : Book) : Type 0 where
  -- the day that it describes is one that calls reach
  pub good : Good (day_of b) b.settled
  -- each line has a user
  pub named : All (λ l. has l.user b.users ≡ true) b.lines
  -- while entering there is neither balance nor revision, of any number
  pub bare : b.allotted ≡ false → (n : ℕ) → ((kind : ℕ) → b.balance n kind ≡ pos 0) × (b.revision n ≡ pos 0)

module _ (b : Book) (h : Kept b) where
  pub users_apart : distinct b.users ≡ true
  users_apart = subst (λ ns. distinct ns ≡ true) (numbers_is b) h.good.apart

  pub users_few : length b.users ≤ USERS
  unfolding day_of
  users_few = omega (arith, length-map b.users (user_of b), h.good.few)

  pub measured_right : measurement_right b.measurement ≡ true
  unfolding day_of
  measured_right = h.good.measurement

-- ---- one call

pub record Agree (c : Call) (b : Book) : Type 0 where
  pub verdicts : book_verdict c b ≡ verdict (move c (day_of b)).tests
  pub days : verdict (move c (day_of b)).tests ≡ accept → day_of (after c b) ≡ (move c (day_of b)).after
  pub answers : verdict (move c (day_of b)).tests ≡ accept → values c b ≡ (move c (day_of b)).answer

-- one row more of two tables
pub row : (n : ℕ) {p q : Bool} {v w : Verdict} → p ≡ q → (q ≡ false → v ≡ w) → pick p (refuse n) v ≡ pick q (refuse n) w
row n {p} {q} {v} {w} e h = ap (λ p. pick p (refuse n) v) e ∙ go q h
  where
    go : (q : Bool) → (q ≡ false → v ≡ w) → pick q (refuse n) v ≡ pick q (refuse n) w
    go true h = refl
    go false h = h refl

-- no row holds
pub none_holds : (ts : List Test) → All (λ t. t.holds ≡ false) ts → verdict ts ≡ accept
unfolding verdict
none_holds [] h = refl
none_holds (t ∷ ts) h = ap (λ p. pick p (refuse t.number) (verdict ts)) h.0 ∙ none_holds ts h.1

-- nor row 12, where the day after keeps the invariant
pub row_12 : (c : Call) (b : Book) → Kept b → verdict (move c (day_of b)).tests ≡ accept → day_of (after c b) ≡ (move c (day_of b)).after
    → pick (some_too_large (after c b)) (refuse 12) accept ≡ accept
row_12 c b h v e =
    let g = good_after (day_of b) b.settled h.good c v in
    ap (λ p. pick p (refuse 12) accept)
    (sym (too_large_is (after c b)) ∙ ap (λ (d : Day). too_large d.users) e ∙ small_right (move c (day_of b)).after.users g.wholes)

-- "all 64 users joined"
pub all_joined : (m : ℕ) → m ≤ USERS → eqb m USERS ≡ leb USERS m
all_joined m l = ⊎_elim
    (λ k. ne_eqb m USERS (λ e. omega arith) ∙ sym (lt-leb USERS m k))
    (λ k. let e : m ≡ USERS = omega arith in eq-eqb m USERS e ∙ sym (le-leb USERS m k)) (lt_or_ge m USERS)
