-- Many lines are the line calls on the numbers, one after the other. Assumes nothing.
use mathlib.Core.Path.{◌≡◌, refl, sym, ap, ◌∙◌}
use mathlib.Core.Bool.{Bool, true, false}
use mathlib.Core.List.{List, [], ◌∷◌, map}
use mathlib.Core.Logic.{⊎_elim}
use Prim.Native.Nat.{ℕ, suc, ◌+◌, ◌-◌, ◌≤◌, ◌<◌}
use native.Mathlib.Omega.{arith}
use lib.Dec.{eqb}
use lib.IntN.{ℤ, pos, nat_abs}
use lib.ListN.{length, take, get_or}
use lib.Seq.{length-take-le, get_or-take}
use borrow.Author.Tests.{eqb-true}
use Rattle.numbers.specs.Sums.{table, at, atZ}
use Rattle.numbers.specs.Lists.{every, has}
use Rattle.numbers.proofs.Lists.{All, true≢false, both_fst, both_snd}
use Rattle.numbers.proofs.Sums.{lt_or_ge}
use Rattle.point_day.specs.Limits.{USERS, LIMIT, LAST_NUMBER}
use Rattle.point_day.specs.Answers.{refused, losses_added}
use Rattle.point_day.specs.Calls as calls
use Rattle.point_day.specs.Day.{all_offtake, is_measured}
use Rattle.point_day.specs.Struct.{Outcome, read, taken, outcome, called}
use Rattle.point_day.specs.declared.PointDay.{PointDay}
use Rattle.point_day.proofs.Taken.{taken_facts}
use Rattle.point_day.proofs.Called.{called_untaken}
use Rattle.line.specs.Cell.{line_losses, place}
use Rattle.state.specs.Places.{more}
use Rattle.line.specs.Lined.{with_cells, Lines, Stands}
use Rattle.line.proofs.Lining.{line_1, line_2, line_3, line_6, line_passed}
use Rattle.file_lines.proofs.Leading.{table_rest}
use Rattle.plain_day.specs.Layout.{EMISSION_AT, DOWNSTREAM_AT, USERS_AT, part, up_to, emissions_readable, head_readable, is_readable, allotted_in, count_in, users_in, day_in, stored}
use Rattle.plain_day.specs.Lines.{Line, Entered, line_in, lines_in, line_calls, same_lengths, plain_lines}
use Rattle.plain_day.specs.Plain.{plain, given, plain_call}
use Rattle.plain_day.proofs.Ranges.{up_to_le, laid_users}
use Rattle.plain_day.proofs.Again.{again, head_laid, day_sized}
use Rattle.plain_day.proofs.ReadBack.{Stores, call_stored, stored_twice}
use Rattle.many_lines.specs.OneByOne.{Made, made, one_before, line_call, one_by_one, answered, LinesOneByOne}
use Rattle.many_lines.proofs.Lining.{stands_after, stop, go_on, lines_done, no_day}

-- ---- a line on a point-day that is entering: refused by a number, or added

-- a number of a list stands somewhere
find : {A : Type 0} (n : ℕ) (xs : List ℕ) → has n xs ≡ true → ((s : ℕ) → s < length xs → at xs s ≡ n → A) → A
unfolding has
find n [] e k = true≢false (sym e)
find {A} n (x ∷ xs) e k = go (eqb n x) refl (λ h. find n xs h (λ s l h. k (suc s) (omega arith) h))
  where
    go : (b : Bool) → eqb n x ≡ b → (has n xs ≡ true → A) → A
    go true q next = k 0 (omega arith) (sym (eqb-true n x q))
    go false q next = next (rw q at e)

abbrev call_of : Line → PointDay → Outcome
call_of l d = called (calls.line l.user l.kind l.consumption l.coefficient) d

module _ {us : List ℕ} {count sum : ℕ} {d : PointDay} (s : Stands us count sum d) (l : Line) {A : Type 0} (no : (n : ℕ) → eqb n 0 ≡ false → outcome (refused n) d ≡ call_of l d → A) (yes : (i x : ℕ) → Lines l.user l.kind l.consumption l.coefficient d i x → A) where
  abbrev n : ℕ
  n = l.user

  abbrev kind : ℕ
  kind = l.kind

  abbrev c : ℕ
  c = l.consumption

  abbrev k : ℕ
  k = l.coefficient

  few : d.count ≤ length d.users
  few = omega (arith, (taken_facts d s.is_taken).few, s.sized.users)

  module _ (r : calls.line_right n kind c k ≡ true) where
    at_place : (i : ℕ) → i < d.count → get_or d.users i 0 ≡ n → A
    at_place i m h =
        let x = line_losses c k in
        ⊎_elim (λ q. no 6 refl (line_6 n kind c k d s.sized s.is_taken s.entering r i m h sum x s.sum refl q))
        (λ q. yes (place i kind) x (line_passed n kind c k d s.sized s.is_taken s.entering r i m h sum x s.sum refl q))
        (lt_or_ge LIMIT (sum + (c + x)))

    by_user : (b : Bool) → has n (take d.count d.users) ≡ b → A
    by_user true e =
        find n (take d.count d.users) e
        (λ i m h.
        let j : i < d.count = omega (arith, length-take-le d.count d.users few) in
        at_place i j (sym (get_or-take d.count d.users i 0 j) ∙ h))
    by_user false e =
        no 3 refl (line_3 n kind c k d s.sized s.is_taken s.entering r e)

  by_ranges : (b : Bool) → calls.line_right n kind c k ≡ b → A
  by_ranges true r = by_user r (has n (take d.count d.users)) refl
  by_ranges false r = no 2 refl (line_2 n kind c k d s.sized s.is_taken s.entering r)

  tested : A
  tested = by_ranges (calls.line_right n kind c k) refl

-- ---- a line call on numbers

-- refused
no_more_lines : (l : Line) (ls : List Line) (ys : List ℤ) {n : ℕ} → eqb n 0 ≡ false → line_call l ys ≡ plain n (pos 0 ∷ []) ys → one_by_one (l ∷ ls) ys ≡ made n 0 0 ys
unfolding one_by_one
no_more_lines l ls ys z p = rw (p, z)

-- accepted
next_line : (l : Line) (ls : List Line) (ys zs : List ℤ) {x : ℕ} → line_call l ys ≡ plain 0 (pos x ∷ []) zs → one_by_one (l ∷ ls) ys ≡ one_before x (one_by_one ls zs)
unfolding one_by_one
next_line l ls ys zs p = rw p

-- what line calls on a point-day came to, in the place of numbers
abbrev in_place : List ℤ → Entered → Made
in_place xs e = made e.status e.accepted e.losses (stored e.day xs)

users_low : (zs : List ℤ) → every (up_to LAST_NUMBER) zs ≡ true → All (λ n. n ≤ LAST_NUMBER) (map nat_abs zs)
unfolding every
users_low [] e = tt
users_low (z ∷ zs) e = (up_to_le LAST_NUMBER z (both_fst (up_to LAST_NUMBER z) _ e), users_low zs (both_snd (up_to LAST_NUMBER z) _ e))

module _ (xs : List ℤ) (e : is_readable xs ≡ true) where
  emissions : emissions_readable (atZ xs EMISSION_AT) (atZ xs DOWNSTREAM_AT) ≡ true
  unfolding head_readable
  emissions =
      both_fst (emissions_readable (atZ xs 3) (atZ xs 4)) _
      (both_snd (up_to 1 (atZ xs 2)) _ (both_snd (up_to 1 (atZ xs 1)) _ (both_snd (up_to 2 (atZ xs 0)) _ (head_laid xs e))))

  module _ {count sum : ℕ} {d : PointDay} (s : Stands (users_in xs) count sum d) where
    stores : Stores d
    stores = record {
      sized = s.sized;
      few = (taken_facts d s.is_taken).few;
      users = rw s.users (users_low (part USERS_AT USERS xs) (laid_users xs e));
      measurement = (taken_facts d s.is_taken).measurement;
    }

    refused_there : (l : Line) {n : ℕ} → outcome (refused n) d ≡ call_of l d → line_call l (stored d xs) ≡ plain n (pos 0 ∷ []) (stored d xs)
    refused_there l o =
        call_stored d stores xs emissions (call_of l) (pos 0 ∷ [])
        ∙ ap (λ (q : Outcome). given q.answer q.day (pos 0 ∷ []) (stored d xs)) (sym o)

    added_there : (l : Line) {x : ℕ} {d' : PointDay} → outcome (losses_added x) d' ≡ call_of l d → (is_measured d.measurement ≡ true → is_measured d'.measurement ≡ true)
        → line_call l (stored d xs) ≡ plain 0 (pos x ∷ []) (stored d' xs)
    added_there l {x} {d'} o m =
        call_stored d stores xs emissions (call_of l) (pos 0 ∷ [])
        ∙ ap (λ (q : Outcome). given q.answer q.day (pos 0 ∷ []) (stored d xs)) (sym o)
        ∙ ap (plain 0 (pos x ∷ [])) (stored_twice d d' xs m)

  -- ---- the lines, one after the other

  while_entering : (ls : List Line) {count sum : ℕ} {d : PointDay} → Stands (users_in xs) count sum d → one_by_one ls (stored d xs) ≡ in_place xs (line_calls ls d)
  unfolding one_by_one line_calls
  while_entering [] s = refl
  while_entering (l ∷ ls) {d = d} s =
      tested s l
      (λ n z o. no_more_lines l ls (stored d xs) z (refused_there s l o) ∙ sym (ap (in_place xs) (stop l ls d o)))
      (λ i x L.
      let d' = with_cells (more i l.consumption d.consumption) (more i x d.losses) d in
      next_line l ls (stored d xs) (stored d' xs) (added_there s l L.is (λ m. m))
      ∙ ap (one_before x) (while_entering ls (stands_after s L))
      ∙ sym (ap (in_place xs) (go_on l ls d L.is)))

  -- a call on numbers that are read
  read_call : (l : Line) {n : ℕ} → outcome (refused n) (day_in xs) ≡ call_of l (day_in xs) → line_call l xs ≡ plain n (pos 0 ∷ []) xs
  unfolding plain_call
  read_call l o = rw (e, ← o) refl

  module _ (t : taken (day_in xs) ≡ true) where
    at_start : allotted_in xs ≡ false → Stands (users_in xs) (count_in xs) (all_offtake (read (day_in xs)).users) (day_in xs)
    unfolding day_in
    at_start a = record { sized = day_sized xs e; is_taken = t; entering = a; users = refl; joined = refl; sum = refl }

    by_stage : (ls : List Line) (b : Bool) → allotted_in xs ≡ b → one_by_one ls xs ≡ in_place xs (line_calls ls (day_in xs))
    unfolding one_by_one line_calls
    by_stage [] b a = ap (made 0 0 0) (sym (again xs e))
    by_stage (l ∷ ls) true a =
        let o = line_1 l.user l.kind l.consumption l.coefficient (day_in xs) (day_sized xs e) t (unfold day_in in a) in
        no_more_lines l ls xs refl (read_call l o) ∙ ap (made 1 0 0) (sym (again xs e)) ∙ sym (ap (in_place xs) (stop l ls (day_in xs) o))
    by_stage (l ∷ ls) false a =
        ap (one_by_one (l ∷ ls)) (sym (again xs e))
        ∙ while_entering (l ∷ ls) (at_start a)

    on_numbers : (ls : List Line) → one_by_one ls xs ≡ in_place xs (line_calls ls (day_in xs))
    on_numbers ls = by_stage ls (allotted_in xs) refl

-- ---- many lines

module _ (ns ks cs ps : List ℕ) (xs : List ℤ) (s : same_lengths ns ks cs ps ≡ true) where
  abbrev ls : List Line
  ls = lines_in ns ks cs ps

  when_taken : is_readable xs ≡ true → taken (day_in xs) ≡ true → plain_lines ns ks cs ps xs ≡ answered (one_by_one ls xs)
  when_taken e t = sym (lines_done ns ks cs ps xs s e t) ∙ ap answered (sym (on_numbers xs e t ls))

  first_line : 1 ≤ length ns → ls ≡ line_in ns ks cs ps 0 ∷ table (λ i. line_in ns ks cs ps (1 + i)) (length ns - 1)
  unfolding table
  first_line m = table_rest (line_in ns ks cs ps) 1 (length ns) m

  -- refused with 2 in both
  first_2 : 1 ≤ length ns → ((l : Line) → line_call l xs ≡ plain 2 (pos 0 ∷ []) xs) → plain 2 (pos 0 ∷ pos 0 ∷ []) xs ≡ answered (one_by_one ls xs)
  first_2 m h =
      sym (ap answered (ap (λ t. one_by_one t xs) (first_line m) ∙ no_more_lines (line_in ns ks cs ps 0) _ xs refl (h (line_in ns ks cs ps 0))))

  by_tests : (a b : Bool) → is_readable xs ≡ a → taken (day_in xs) ≡ b → 1 ≤ length ns → plain_lines ns ks cs ps xs ≡ answered (one_by_one ls xs)
  by_tests true true e t m = when_taken e t
  by_tests true false e t m = sym (no_day ns ks cs ps xs s (rw (e, t))) ∙ first_2 m (λ l. read_call xs e l (called_untaken _ (day_in xs) t))
  by_tests false b e t m = sym (no_day ns ks cs ps xs s (rw e)) ∙ first_2 m (λ l. unfold plain_call in rw e refl)

pub lines_one_by_one : LinesOneByOne
lines_one_by_one ns ks cs ps xs s = record {
  on_taken = λ h. when_taken ns ks cs ps xs s (both_fst (is_readable xs) _ h) (both_snd (is_readable xs) _ h);
  some_line = by_tests ns ks cs ps xs s (is_readable xs) (taken (day_in xs)) refl refl;
}
