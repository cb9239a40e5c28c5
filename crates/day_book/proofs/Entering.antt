-- Join, line, measure and start-final: the book's rows and entries against the tables of the calls. Assumes nothing.
use mathlib.Core.Path.{◌≡◌, refl, sym, ap, ap₂, ◌∙◌}
use mathlib.Core.Bool.{Bool, true, false, not}
use mathlib.Core.List.{[], ◌∷◌, ◌++◌, map}
use Prim.Native.Nat.{ℕ, ◌+◌, ◌≤◌}
use native.Mathlib.Omega.{arith}
use lib.Dec.{leb, ltb, leb-zero}
use lib.ListN.{length, length-map}
use borrow.Author.Tests.{leb-true, le-leb, not-false}
use Rattle.numbers.specs.Sums.{total}
use Rattle.numbers.specs.Lists.{both, either, has}
use Rattle.numbers.proofs.Lists.{both_fst, both_snd, both_none, map_append, map_map}
use Rattle.point_day.specs.Limits.{USERS, KINDS, LIMIT, COEFFICIENT}
use Rattle.point_day.specs.Day.{all_offtake, is_number, emission_right, provisional, last_stage, next}
use Rattle.point_day.specs.Calls as calls
use Rattle.point_day.specs.Calls.{accept, verdict, with_users, cell_step, cell_in, line_right, cleared}
use Rattle.point_day.specs.declared.Stage.{Stage}
use Rattle.point_day.specs.declared.Stage.TheVariants.{Provisional, FinalProvisional, FinalDefinitive}
use Rattle.point_day.proofs.Good.{accepted}
use Rattle.day_book.specs.Run.{join, line, lent_line, measure, start_final, move}
use Rattle.day_book.specs.Calls.{a_line}
use Rattle.day_book.specs.Book.{Book, added_up, point_sum, joined, with_line, measured, restarted, next_stage, is_provisional}
use Rattle.day_book.specs.Book.{is_final_provisional, lies, in_range, refusals, book_verdict}
use Rattle.day_book.specs.Described.{user_of, day_of}
use Rattle.day_book.proofs.Figures.{numbers_is, sum_is}
use Rattle.day_book.proofs.Lines.{users_after, line_sum, newcomer_empty}
use Rattle.day_book.proofs.Agreeing.{Kept, users_apart, users_few, Agree, row, none_holds, row_12, all_joined}

-- "entering", of a call other than stand-in
pub entering_row : (p : Bool) → either (not (not p)) false ≡ p
entering_row true = refl
entering_row false = refl

-- ---- join

module _ (n : ℕ) (b : Book) (h : Kept b) where
  join_day : verdict (move (join n) (day_of b)).tests ≡ accept → day_of (joined n b) ≡ (calls.join n (day_of b)).after
  unfolding day_of joined calls.join
  join_day v =
      let p = accepted (calls.join n (day_of b)).tests v in
      let z = h.bare p.0 n in
      let new = ap (has n) (sym (numbers_is b)) ∙ p.1.1.0 in
      ap (λ us. with_users us (day_of b))
      (map_append (user_of b) b.users (n ∷ [])
      ∙ ap (λ u. map (user_of b) b.users ++ (u ∷ [])) (newcomer_empty b n b.users new h.named z.0 z.1))

  join_rows : book_verdict (join n) b ≡ verdict (calls.join n (day_of b)).tests
  unfolding verdict refusals day_of calls.join
  join_rows =
      row 1 (entering_row b.allotted) (λ p. row 2 refl (λ q. row 4 (ap (has n) (sym (numbers_is b))) (λ r.
      row 5 (all_joined (length b.users) (users_few b h) ∙ ap (leb USERS) (sym (length-map b.users (user_of b)))) (λ s.
      let v = none_holds (calls.join n (day_of b)).tests (p, (q, (r, (s, tt)))) in
      row_12 (join n) b h v (join_day v)))))

  pub join_agrees : Agree (join n) b
  join_agrees = record { verdicts = join_rows; days = join_day; answers = λ v. unfold calls.join in refl }

-- ---- line

-- "0 to"
from_0 : (high m : ℕ) → lies 0 high m ≡ leb m high
from_0 high m = ap (λ p. both p (leb m high)) (leb-zero m)

line_range : (n kind c k : ℕ) → in_range (line n kind c k) ≡ line_right n kind c k
unfolding line_right
line_range n kind c k =
    ap₂ (λ p q. both (is_number n) (both (both (leb 1 kind) (leb kind KINDS)) (both p q))) (from_0 LIMIT c) (from_0 COEFFICIENT k)

kind_range : (n kind c k : ℕ) → line_right n kind c k ≡ true → (1 ≤ kind) × (kind ≤ KINDS)
unfolding line_right
kind_range n kind c k e =
    let range = both_fst (both (leb 1 kind) (leb kind KINDS)) _ (both_snd (is_number n) _ e) in
    (leb-true 1 kind (both_fst (leb 1 kind) _ range), leb-true kind KINDS (both_snd (leb 1 kind) _ range))

module _ (n kind c k : ℕ) (b : Book) (h : Kept b) where
  -- the day after, whether or not the user is there
  line_day : line_right n kind c k ≡ true → day_of (with_line (a_line n kind c k) b) ≡ (calls.line n kind c k (day_of b)).after
  unfolding day_of with_line calls.line
  line_day e =
      let range = kind_range n kind c k e in
      ap (λ us. with_users us (day_of b)) (sym (users_after b n kind c k range.0 range.1 b.users))

  -- the point-day's sum with the line
  sum_after : line_right n kind c k ≡ true → has n b.users ≡ true
      → point_sum (with_line (a_line n kind c k) b)
      ≡ all_offtake (day_of b).users + (c + (cell_step c k (cell_in n kind (day_of b).users)).added)
  unfolding cell_step
  sum_after e f =
      let range = kind_range n kind c k e in
      omega (arith, line_sum b n kind c k range.0 range.1 (users_apart b h) f, sum_is b)

  line_days : verdict (calls.line n kind c k (day_of b)).tests ≡ accept
      → day_of (with_line (a_line n kind c k) b) ≡ (calls.line n kind c k (day_of b)).after
  line_days v = unfold calls.line in line_day (not-false _ (accepted (calls.line n kind c k (day_of b)).tests v).1.0)

  line_rows : book_verdict (line n kind c k) b ≡ verdict (calls.line n kind c k (day_of b)).tests
  unfolding verdict refusals day_of calls.line
  line_rows =
      row 1 (entering_row b.allotted) (λ p. row 2 (ap not (line_range n kind c k)) (λ q.
      row 3 (ap (λ ns. not (has n ns)) (sym (numbers_is b))) (λ r.
      row 6 (ap (ltb LIMIT) (sum_after (not-false _ q) (ap (has n) (sym (numbers_is b)) ∙ not-false _ r))) (λ s.
      let v = none_holds (calls.line n kind c k (day_of b)).tests (p, (q, (r, (s, tt)))) in
      row_12 (line n kind c k) b h v (line_days v)))))

  pub line_agrees : Agree (line n kind c k) b
  line_agrees = record { verdicts = line_rows; days = line_days; answers = λ v. unfold calls.line cell_step in refl }

  pub lent_line_agrees : Agree (lent_line n kind c k) b
  lent_line_agrees = record { verdicts = unfold refusals in line_rows; days = line_agrees.days; answers = line_agrees.answers }

-- ---- measure

measure_stage : (s : Stage) (p : Bool) → either (not (either (not p) (both (is_provisional s) p))) false ≡ both p (not (provisional s))
measure_stage Provisional true = refl
measure_stage Provisional false = refl
measure_stage FinalProvisional true = refl
measure_stage FinalProvisional false = refl
measure_stage FinalDefinitive true = refl
measure_stage FinalDefinitive false = refl

-- downstream is at most emission, and so in its range
measure_range : (e w : ℕ) → in_range (measure e w) ≡ emission_right e w
measure_range e w = ap₂ (λ p q. both p (both q (leb w e))) (from_0 LIMIT e) (from_0 LIMIT w) ∙ go (leb e LIMIT) (leb w e) refl refl
  where
    go : (p q : Bool) → leb e LIMIT ≡ p → leb w e ≡ q → both p (both (leb w LIMIT) q) ≡ both p q
    go false q a b = refl
    go true false a b = both_none (leb w LIMIT)
    go true true a b = rw (le-leb w LIMIT (omega (arith, leb-true e LIMIT a, leb-true w e b)))

module _ (e w : ℕ) (b : Book) (h : Kept b) where
  measure_day : day_of (measured e w b) ≡ (calls.measure e w (day_of b)).after
  unfolding day_of measured calls.measure
  measure_day = refl

  measure_rows : book_verdict (measure e w) b ≡ verdict (calls.measure e w (day_of b)).tests
  unfolding verdict refusals day_of calls.measure
  measure_rows =
      row 1 (measure_stage b.stage b.allotted) (λ p. row 2 (ap not (measure_range e w)) (λ q.
      row_12 (measure e w) b h (none_holds (calls.measure e w (day_of b)).tests (p, (q, tt))) measure_day))

  pub measure_agrees : Agree (measure e w) b
  measure_agrees = record { verdicts = measure_rows; days = λ v. measure_day; answers = λ v. unfold calls.measure in refl }

-- ---- start-final

final_stage : (s : Stage) (p : Bool)
    → either (not (both (either (is_provisional s) (is_final_provisional s)) p)) false ≡ either (not p) (last_stage s)
final_stage Provisional true = refl
final_stage Provisional false = refl
final_stage FinalProvisional true = refl
final_stage FinalProvisional false = refl
final_stage FinalDefinitive true = refl
final_stage FinalDefinitive false = refl

stage_after : (s : Stage) → next_stage s ≡ next s
stage_after Provisional = refl
stage_after FinalProvisional = refl
stage_after FinalDefinitive = refl

module _ (b : Book) (h : Kept b) where
  final_day : day_of (restarted b) ≡ (calls.start_final (day_of b)).after
  unfolding day_of restarted calls.start_final added_up total
  final_day =
      ap₂ (λ s us. record { stage = s; allotted = false; measurement = b.measurement; users = us }) (stage_after b.stage)
      (sym (map_map cleared (user_of b) b.users))

  final_rows : book_verdict start_final b ≡ verdict (calls.start_final (day_of b)).tests
  unfolding verdict refusals day_of calls.start_final
  final_rows =
      row 1 (final_stage b.stage b.allotted) (λ p.
      row_12 start_final b h (none_holds (calls.start_final (day_of b)).tests (p, tt)) final_day)

  pub start_final_agrees : Agree start_final b
  start_final_agrees = record { verdicts = final_rows; days = λ v. final_day; answers = λ v. unfold calls.start_final in refl }
