-- The book's users have numbers up to 65,535. Assumes nothing.
use mathlib.Core.Path.{◌≡◌, refl}
use mathlib.Core.Bool.{Bool, true, false}
use mathlib.Core.List.{List, [], ◌∷◌}
use Prim.Native.Nat.{ℕ, zero, suc, ◌≤◌}
use lib.Dec.{leb, eqb}
use lib.ListN.{length, get_or}
use borrow.Author.Tests.{leb-true, not-false}
use Rattle.numbers.specs.Sums.{pick}
use Rattle.numbers.specs.Lists.{every, rising}
use Rattle.numbers.proofs.Lists.{All, both_fst, both_snd, all_append}
use Rattle.point_day.specs.Day.{Pair}
use Rattle.point_day.specs.Calls.{Verdict, refuse, accept}
use Rattle.point_day.proofs.Good.{accepted}
use Rattle.day_book.specs.Calls.{Call, join, line, lent_line, measure, allot, stand_in, revise, start_final, Calls, none, ◌then◌}
use Rattle.day_book.specs.Book.{USERS, LAST_NUMBER, ROWS, Book, fresh_book, joined, with_line, measured, stood_in, tolerated, assigned, restarted, after}
use Rattle.day_book.specs.Book.{lies, is_user, pair_right, row_in_range, in_range, users_in, empty_before, used_row, refusals, book_verdict, by_verdict, book}
use Rattle.day_book.specs.Book as own

abbrev pub Low : ℕ → Type 0
Low n = n ≤ LAST_NUMBER

user_low : (n : ℕ) → is_user n ≡ true → Low n
user_low n e = leb-true n LAST_NUMBER (both_snd (leb 1 n) (leb n LAST_NUMBER) e)

-- an element of a list, or what stands for none
every_or : {A : Type 0} (p : A → Bool) (x : A) → p x ≡ true → (xs : List A) → every p xs ≡ true → (i : ℕ) → p (get_or xs i x) ≡ true
unfolding every
every_or p x h [] e i = h
every_or p x h (y ∷ xs) e zero = both_fst (p y) _ e
every_or p x h (y ∷ xs) e (suc i) = every_or p x h xs (both_snd (p y) _ e) i

pairs_low : (ps : List Pair) → every pair_right ps ≡ true → All Low (users_in ps)
unfolding every
pairs_low [] e = tt
pairs_low (p ∷ ps) e = (user_low p.user (both_fst (is_user p.user) _ (both_fst (pair_right p) _ e)), pairs_low ps (both_snd (pair_right p) _ e))

no_pair : row_in_range [] ≡ true
unfolding row_in_range every rising
no_pair = refl

row_low : (rows : List (List Pair)) → every row_in_range rows ≡ true → All Low (users_in (used_row rows))
unfolding used_row row_in_range
row_low rows e =
    let ps = get_or rows (empty_before rows) [] in
    let h = every_or row_in_range [] no_pair rows e (empty_before rows) in
    pairs_low ps (both_fst (every pair_right ps) _ (both_snd (lies 0 USERS (length ps)) _ h))

module _ (b : Book) (h : All Low b.users) where
  ranged : (c : Call) → book_verdict c b ≡ accept → in_range c ≡ true
  unfolding refusals
  ranged c v = not-false (in_range c) (accepted (refusals c b) v).1.0

  low_after : (c : Call) → in_range c ≡ true → All Low (after c b).users
  unfolding joined with_line measured own.allotted stood_in assigned restarted
  low_after (join n) e = all_append Low b.users (n ∷ []) h (user_low n e, tt)
  low_after (line n kind c k) e = h
  low_after (lent_line n kind c k) e = h
  low_after (measure emission downstream) e = h
  low_after allot e = h
  low_after (stand_in rows) e = all_append Low b.users (users_in (used_row rows)) h (row_low rows (both_snd (eqb (length rows) ROWS) _ e))
  low_after revise e = go (tolerated b)
    where
      go : (p : Bool) → All Low (pick p b (assigned b)).users
      go true = h
      go false = h
  low_after start_final e = h

  low_by : (c : Call) (v : Verdict) → book_verdict c b ≡ v → All Low (by_verdict v c b).users
  low_by c (refuse n) e = h
  low_by c accept e = low_after c (ranged c e)

pub named : (cs : Calls) → All Low (book cs).users
unfolding book fresh_book
named none = tt
named (cs then c) = low_by (book cs) (named cs) c (book_verdict c (book cs)) refl
