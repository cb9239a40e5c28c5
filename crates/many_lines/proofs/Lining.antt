-- Line after line on a point-day in plain numbers. Assumes nothing.
use mathlib.Core.Path.{◌≡◌, refl, sym, ap, ap₂, ◌∙◌}
use mathlib.Core.Bool.{true, false, not}
use mathlib.Core.List.{List, [], ◌∷◌, ◌++◌, map, append_assoc, append-nil}
use Prim.Native.Nat.{ℕ, zero, suc, ◌+◌, ◌-◌, ◌≤◌, ◌<◌}
use native.Mathlib.Omega.{arith}
use lib.IntN.{ℤ, pos, negsuc, nat_abs, ◌+ℤ◌}
use lib.ListN.{length, get_or, set, length-set, length-map, get_or-map}
use lib.Dec.{eqb}
use borrow.Author.Tests.{not-true, eqb-true, ne_eqb}
use Rattle.numbers.specs.Sums.{pick, table, atZ, total}
use Rattle.numbers.specs.Amounts.{Within, is_negative}
use Rattle.numbers.proofs.Lists.{true≢false, both_fst, both_snd}
use Rattle.numbers.proofs.Places.{every_at}
use Rattle.numbers.proofs.Sums.{total_set}
use Rattle.point_day.specs.Limits.{USERS, LIMIT}
use Rattle.point_day.specs.Fields.{set_consumption}
use Rattle.point_day.specs.Answers.{refused, losses_added}
use Rattle.point_day.specs.Calls as calls
use Rattle.point_day.specs.Day.{all_offtake}
use Rattle.point_day.specs.Struct.{Sized, read, none_below, taken, outcome, called}
use Rattle.point_day.specs.declared.PointDay.{PointDay}
use Rattle.point_day.proofs.Taken.{taken_facts}
use Rattle.point_day.proofs.Padding.{map_set}
use Rattle.state.proofs.Cells.{low_from}
use Rattle.state.proofs.Totals.{offtake_is}
use Rattle.taken.proofs.Facts.{Facts, facts}
use Rattle.state.specs.Places.{more}
use Rattle.line.specs.Lined.{with_cells, Lines, Stands}
use Rattle.line.proofs.Lining.{line_1}
use Rattle.day_book.specs.Run.{line}
use Rattle.file_lines.proofs.Taking.{outcome_taken}
use Rattle.file_lines.proofs.Leading.{table_rest, table_next}
use Rattle.plain_day.specs.Layout.{CONSUMPTION_AT, LOSSES_AT, is_readable, day_in, stored}
use Rattle.plain_day.specs.Lines.{Line, Entered, entered, one_more, line_in, lines_in, line_calls, same_lengths, is_taken, plain_lines}
use Rattle.plain_day.specs.Plain.{plain}
use Rattle.plain_day.proofs.Again.{again, day_sized}
use Rattle.plain_day.proofs.Stores as store
use Rattle.many_lines.specs.Many.{in_numbers}

-- ---- a line at its cell

-- x more at a place of amounts from 0
more_total : (xs : List ℤ) (i v : ℕ) → none_below xs ≡ true → i < length xs → total (map nat_abs (more i v xs)) ≡ total (map nat_abs xs) + v
more_total xs i v h l =
    let e : nat_abs (atZ xs i +ℤ pos v) ≡ get_or (map nat_abs xs) i 0 + v = rw (get_or-map nat_abs xs i (pos 0)) (size (atZ xs i) (not-true _ (every_at (λ z. not (is_negative z)) (pos 0) xs h i l))) in
    ap total (map_set nat_abs xs i (atZ xs i +ℤ pos v) ∙ ap (set (map nat_abs xs) i) e) ∙ total_set (map nat_abs xs) i v (omega (arith, length-map xs nat_abs))
  where
    size : (z : ℤ) → is_negative z ≡ false → nat_abs (z +ℤ pos v) ≡ nat_abs z + v
    size (pos a) e = refl
    size (negsuc a) e = true≢false e

-- the offtake of a taken point-day is the sum of its cells
offtake_of : (d : PointDay) → taken d ≡ true → all_offtake (read d).users ≡ total (map nat_abs d.consumption) + total (map nat_abs d.losses)
offtake_of d e = let t = taken_facts d e in offtake_is d t.past.consumption t.past.losses

module _ {us : List ℕ} {count sum : ℕ} {d : PointDay} (s : Stands us count sum d) where
  fact : Facts d
  fact = facts d s.sized s.is_taken

  pub few : count ≤ USERS
  few = omega (arith, fact.few, s.joined)

  pub sum_small : sum ≤ LIMIT
  sum_small = rw s.sum (taken_facts d s.is_taken).offtake

  module _ {n kind c k i x : ℕ} (L : Lines n kind c k d i x) where
    abbrev d' : PointDay
    d' = with_cells (more i c d.consumption) (more i x d.losses) d

    pub consumption_room : (xs : List ℤ) → Within LIMIT (atZ (stored d xs) (CONSUMPTION_AT + i))
    consumption_room xs = rw (store.consumption_at d s.sized xs i L.place) (low_from LIMIT d.consumption fact.arrays.consumption.range LIMIT (omega arith) i)

    pub losses_room : (xs : List ℤ) → Within LIMIT (atZ (stored d xs) (LOSSES_AT + i))
    losses_room xs = rw (store.losses_at d s.sized xs i L.place) (low_from LIMIT d.losses fact.arrays.losses.range LIMIT (omega arith) i)

    pub cells_stored : (xs : List ℤ) → more (LOSSES_AT + i) x (more (CONSUMPTION_AT + i) c (stored d xs)) ≡ stored d' xs
    cells_stored xs =
        let z = s.sized in
        let d₁ = set_consumption (more i c d.consumption) d in
        let z₁ = store.sized_consumption d z (more i c d.consumption) (length-set d.consumption i (atZ d.consumption i +ℤ pos c) ∙ z.consumption) in
        ap (λ y. more (LOSSES_AT + i) x (set (stored d xs) (CONSUMPTION_AT + i) (y +ℤ pos c))) (store.consumption_at d z xs i L.place)
        ∙ ap (more (LOSSES_AT + i) x) (store.consumption_stored d z xs i (atZ d.consumption i +ℤ pos c) L.place)
        ∙ ap (λ y. set (stored d₁ xs) (LOSSES_AT + i) (y +ℤ pos x)) (store.losses_at d₁ z₁ xs i L.place)
        ∙ store.losses_stored d₁ z₁ xs i (atZ d.losses i +ℤ pos x) L.place

    -- the point-day after it stands in the same way
    pub stands_after : Stands us count (sum + (c + x)) d'
    stands_after = record {
      sized = record {
        users = s.sized.users;
        consumption = length-set d.consumption i (atZ d.consumption i +ℤ pos c) ∙ s.sized.consumption;
        losses = length-set d.losses i (atZ d.losses i +ℤ pos x) ∙ s.sized.losses;
        balance = s.sized.balance;
        revision = s.sized.revision;
      };
      is_taken = after_taken;
      entering = s.entering;
      users = s.users;
      joined = s.joined;
      sum =
          sums (total (map nat_abs d.consumption)) (total (map nat_abs d.losses)) (s.sum ∙ offtake_of d s.is_taken)
          (more_total d.consumption i c (taken_facts d s.is_taken).consumption (omega (arith, s.sized.consumption, L.place)))
          (more_total d.losses i x (taken_facts d s.is_taken).losses (omega (arith, s.sized.losses, L.place)))
          ∙ sym (offtake_of d' after_taken);
    }
      where
        after_taken : taken d' ≡ true
        after_taken = outcome_taken d s.sized s.is_taken s.entering (line n kind c k) L.is

        sums : (a b : ℕ) {a' b' : ℕ} → sum ≡ a + b → a' ≡ a + c → b' ≡ b + x → sum + (c + x) ≡ a' + b'
        sums a b p q r = omega arith

-- ---- four lists of equal length

module _ (ns ks cs ps : List ℕ) (e : same_lengths ns ks cs ps ≡ true) where
  pub kinds_long : length ks ≡ length ns
  kinds_long = sym (eqb-true (length ns) (length ks) (both_fst (eqb (length ns) (length ks)) _ e))

  pub consumptions_long : length cs ≡ length ns
  consumptions_long = sym (eqb-true (length ns) (length cs) (both_fst (eqb (length ns) (length cs)) _ (both_snd (eqb (length ns) (length ks)) _ e)))

  pub coefficients_long : length ps ≡ length ns
  coefficients_long = sym (eqb-true (length ns) (length ps) (both_snd (eqb (length ns) (length cs)) _ (both_snd (eqb (length ns) (length ks)) _ e)))

-- ---- the lines, one after the other

-- i lines more, before the others, that added losses
abbrev pub before : ℕ → ℕ → Entered → Entered
before i a e = entered e.status (i + e.accepted) (a + e.losses) e.day

none_before : (e : Entered) → e ≡ before 0 0 e
none_before e = ap₂ (λ p q. entered e.status p q e.day) (omega arith) (omega arith)

one_after : (i a x : ℕ) (e : Entered) → before i a (one_more x e) ≡ before (i + 1) (a + x) e
one_after i a x e = ap₂ (λ p q. entered e.status p q e.day) (omega arith) (omega arith)

pub stop : (l : Line) (ls : List Line) (d : PointDay) {r : ℕ} → outcome (refused r) d ≡ called (calls.line l.user l.kind l.consumption l.coefficient) d → line_calls (l ∷ ls) d ≡ entered r 0 0 d
unfolding line_calls
stop l ls d o = rw (← o) refl

pub go_on : (l : Line) (ls : List Line) (d : PointDay) {x : ℕ} {d' : PointDay} → outcome (losses_added x) d' ≡ called (calls.line l.user l.kind l.consumption l.coefficient) d
    → line_calls (l ∷ ls) d ≡ one_more x (line_calls ls d')
unfolding line_calls
go_on l ls d o = rw (← o) refl

-- the first i lines are accepted: what stands now
module _ (f : ℕ → Line) (xs : List ℤ) (us : List ℕ) (count : ℕ) where
  pub record Accepted (day : List ℤ) (sum losses i : ℕ) : Type 0 where
    pub point : PointDay
    pub numbers : day ≡ stored point xs
    pub stands : Stands us count sum point
    pub low : losses ≤ sum
    pub leads : (rest : List Line) → line_calls (table f i ++ rest) (day_in xs) ≡ before i losses (line_calls rest point)

  pub none_yet : is_readable xs ≡ true → {sum : ℕ} → Stands us count sum (day_in xs) → Accepted xs sum 0 0
  unfolding table
  none_yet e s = record { point = day_in xs; numbers = sym (again xs e); stands = s; low = omega arith; leads = λ rest. none_before (line_calls rest (day_in xs)) }

  module _ {day : List ℤ} {sum losses i : ℕ} (a : Accepted day sum losses i) where
    -- all lines but the first i
    abbrev others : ℕ → List Line
    others n = table (λ j. f ((i + 1) + j)) (n - (i + 1))

    split : (n : ℕ) → i < n → table f n ≡ table f i ++ f i ∷ others n
    split n l = table_rest f (i + 1) n (omega arith) ∙ ap (λ t. t ++ others n) (sym (table_next f i)) ∙ append_assoc (table f i) (f i ∷ []) (others n)

    pub ended : (n : ℕ) → i < n → {r : ℕ} → outcome (refused r) a.point ≡ called (calls.line (f i).user (f i).kind (f i).consumption (f i).coefficient) a.point
        → plain r (pos i ∷ pos losses ∷ []) day ≡ in_numbers (line_calls (table f n) (day_in xs)) xs
    ended n l {r} o =
        ap (λ t. plain r (pos i ∷ pos losses ∷ []) t) a.numbers
        ∙ sym (ap (λ e. in_numbers e xs)
        (ap (λ t. line_calls t (day_in xs)) (split n l) ∙ a.leads (f i ∷ others n) ∙ ap (before i losses) (stop (f i) (others n) a.point o) ∙ ap₂ (λ p q. entered r p q a.point) zero_more zero_more))
      where
        zero_more : {m : ℕ} → m + 0 ≡ m
        zero_more = omega arith

    pub all_done : (n : ℕ) → i ≡ n → plain 0 (pos n ∷ pos losses ∷ []) day ≡ in_numbers (line_calls (table f n) (day_in xs)) xs
    unfolding line_calls
    all_done n e =
        ap (λ k. plain 0 (pos k ∷ pos losses ∷ []) day) (sym e)
        ∙ ap (λ t. plain 0 (pos i ∷ pos losses ∷ []) t) a.numbers
        ∙ sym (ap (λ e. in_numbers e xs)
        (ap (λ k. line_calls (table f k) (day_in xs)) (sym e) ∙ ap (λ t. line_calls t (day_in xs)) (sym (append-nil (table f i))) ∙ a.leads [] ∙ ap₂ (λ p q. entered 0 p q a.point) zero_more zero_more))
      where
        zero_more : {m : ℕ} → m + 0 ≡ m
        zero_more = omega arith

    module _ {p x : ℕ} (L : Lines (f i).user (f i).kind (f i).consumption (f i).coefficient a.point p x) where
      pub accepted_more : {day' : List ℤ} → day' ≡ more (LOSSES_AT + p) x (more (CONSUMPTION_AT + p) (f i).consumption day) → Accepted day' (sum + ((f i).consumption + x)) (losses + x) (i + 1)
      accepted_more q =
          let c = (f i).consumption in
          let d = a.point in
          record {
            point = with_cells (more p c d.consumption) (more p x d.losses) d;
            numbers = q ∙ ap (λ t. more (LOSSES_AT + p) x (more (CONSUMPTION_AT + p) c t)) a.numbers ∙ cells_stored a.stands L xs;
            stands = stands_after a.stands L;
            low = omega (arith, a.low);
            leads = λ rest.
                ap (λ t. line_calls (t ++ rest) (day_in xs)) (sym (table_next f i))
                ∙ ap (λ t. line_calls t (day_in xs)) (append_assoc (table f i) (f i ∷ []) rest)
                ∙ a.leads (f i ∷ rest)
                ∙ ap (before i losses) (go_on (f i) rest d L.is)
                ∙ one_after i losses x (line_calls rest (with_cells (more p c d.consumption) (more p x d.losses) d));
          }

-- ---- many lines

-- a point-day that is allotted: the first line is refused
first_refused : (f : ℕ → Line) (n : ℕ) (d : PointDay) → Sized d → taken d ≡ true → d.allotted ≡ true → line_calls (table f n) d ≡ entered (pick (eqb n 0) 0 1) 0 0 d
unfolding table line_calls
first_refused f zero d z t e = refl
first_refused f (suc n) d z t e =
    ap (λ ls. line_calls ls d) (table_rest f 1 (suc n) (omega arith))
    ∙ stop (f 0) (table (λ i. f (1 + i)) (suc n - 1)) d (line_1 (f 0).user (f 0).kind (f 0).consumption (f 0).coefficient d z t e)
    ∙ ap (λ b. entered (pick b 0 1) 0 0 d) (sym (ne_eqb (suc n) 0 (λ h. omega arith)))

module _ (ns ks cs ps : List ℕ) (xs : List ℤ) where
  pub unequal : same_lengths ns ks cs ps ≡ false → plain 2 (pos 0 ∷ pos 0 ∷ []) xs ≡ plain_lines ns ks cs ps xs
  unfolding plain_lines
  unequal e = rw e refl

  module _ (s : same_lengths ns ks cs ps ≡ true) where
    pub no_day : is_taken xs ≡ false → plain 2 (pos 0 ∷ pos 0 ∷ []) xs ≡ plain_lines ns ks cs ps xs
    unfolding plain_lines
    no_day t = rw (s, t) refl

    module _ (e : is_readable xs ≡ true) where
      module _ (t : taken (day_in xs) ≡ true) where
        pub lines_done : in_numbers (line_calls (lines_in ns ks cs ps) (day_in xs)) xs ≡ plain_lines ns ks cs ps xs
        unfolding plain_lines
        lines_done = rw (s, e, t) refl

        pub not_entering : (day_in xs).allotted ≡ true → plain (pick (eqb (length ns) 0) 0 1) (pos 0 ∷ pos 0 ∷ []) xs ≡ plain_lines ns ks cs ps xs
        not_entering a =
            ap (λ t. plain (pick (eqb (length ns) 0) 0 1) (pos 0 ∷ pos 0 ∷ []) t) (sym (again xs e))
            ∙ sym (ap (λ r. in_numbers r xs) (first_refused (line_in ns ks cs ps) (length ns) (day_in xs) (day_sized xs e) t a))
            ∙ lines_done
