-- What each call leaves as it was. Assumes nothing.
use mathlib.Core.Path.{◌≡◌, refl, sym, ap, ◌∙◌}
use mathlib.Core.Bool.{Bool, true, false}
use mathlib.Core.List.{List, [], ◌∷◌, map}
use Prim.Native.Nat.{ℕ}
use lib.IntN.{ℤ}
use lib.ListN.{length, take}
use lib.Seq.{take_at}
use Rattle.numbers.specs.Sums.{pick}
use Rattle.numbers.proofs.Lists.{map_append}
use Rattle.point_day.specs.Day.{User}
use Rattle.point_day.specs.Calls.{Verdict, refuse, accept, within_tolerance, revision_assigned}
use Rattle.day_book.specs.Run.{Call, join, line, lent_line, measure, allot, stand_in, revise, start_final}
use Rattle.day_book.specs.Calls.{Line, a_line}
use Rattle.day_book.specs.Book.{Book, R, joined, with_line, measured, stood_in, tolerated, assigned, restarted, after}
use Rattle.day_book.specs.Book.{by_verdict}
use Rattle.day_book.specs.Book as own
use Rattle.day_book.specs.Leaves.{Leaves, LeavesBy}
use Rattle.day_book.specs.Book.{answer_by}
use Rattle.day_book.specs.Described.{user_of, day_of}
use Rattle.day_book.proofs.Figures.{of_each}

-- two books with the same users, and one figure of each user the same
same : (x y : Book) {A : Type 0} (f : User → A) → y.users ≡ x.users → ((n : ℕ) → f (user_of y n) ≡ f (user_of x n))
    → map f (day_of y).users ≡ map f (day_of x).users
same x y f e g =
    of_each y f (λ n. f (user_of x n)) g ∙ ap (map (λ n. f (user_of x n))) e ∙ sym (of_each x f (λ n. f (user_of x n)) (λ n. refl))

abbrev number : User → ℕ
number u = u.number

abbrev used : User → List ℕ
used u = u.consumption

abbrev lost : User → List ℕ
lost u = u.losses

abbrev shared : User → List ℤ
shared u = u.balance

abbrev revised : User → ℤ
revised u = u.revision

line_leaves : (l : Line) (b : Book) → Leaves (line 0 0 0 0) (day_of b) (day_of (with_line l b))
unfolding day_of with_line
line_leaves l b =
    let y = with_line l b in
    (refl, refl, refl, same b y number refl (λ n. refl), same b y shared refl (λ n. refl), same b y revised refl (λ n. refl))

joined_after : (b : Book) (n : ℕ) → take (length (day_of b).users) (day_of (joined n b)).users ≡ (day_of b).users
unfolding day_of joined
joined_after b n =
    ap (take (length (map (user_of b) b.users))) (map_append (user_of b) b.users (n ∷ []))
    ∙ take_at (map (user_of b) b.users) (user_of b n ∷ []) (length (map (user_of b) b.users)) refl

leaves_after : (c : Call) (b : Book) → LeavesBy (answer_by accept c b) c (day_of b) (day_of (after c b))
unfolding day_of joined with_line measured own.allotted stood_in assigned restarted
leaves_after (join n) b = (refl, refl, refl, joined_after b n)
leaves_after (line n kind c k) b = line_leaves (a_line n kind c k) b
leaves_after (lent_line n kind c k) b = line_leaves (a_line n kind c k) b
leaves_after (measure emission downstream) b = (refl, refl, refl)
leaves_after allot b =
    let y = own.allotted b in
    let users = same b y number refl (λ n. refl) in
    (refl, refl, users, same b y used refl (λ n. refl), same b y lost refl (λ n. refl), same b y revised refl (λ n. refl))
leaves_after (stand_in rows) b = (refl, refl)
leaves_after revise b = go (tolerated b)
  where
    go : (p : Bool)
        → LeavesBy (pick p (within_tolerance (R b)) (revision_assigned (R b))) revise (day_of b) (day_of (pick p b (assigned b)))
    go true = refl
    go false =
        let y = assigned b in
        let users = same b y number refl (λ n. refl) in
        (refl, refl, refl, users, same b y used refl (λ n. refl), same b y lost refl (λ n. refl), same b y shared refl (λ n. refl))
leaves_after start_final b = (refl, same b (restarted b) number refl (λ n. refl))

pub left_by : (c : Call) (v : Verdict) (b : Book) → LeavesBy (answer_by v c b) c (day_of b) (day_of (by_verdict v c b))
left_by c (refuse n) b = refl
left_by c accept b = leaves_after c b
