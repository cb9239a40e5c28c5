-- Many lines at once: line calls one after the other, until one is refused. Assumes nothing.
use Rattle.std.specs.Prelude.{Bool, List, [], ◌∷◌, ℕ, ◌+◌, eqb, ℤ, pos, length}
use Rattle.numbers.specs.Sums.{pick, table, at}
use Rattle.numbers.specs.Lists.{both}
use Rattle.point_day.specs.Answers.{Answer, refused, done, losses_added, rows_looked_at, within_tolerance, revision_assigned}
use Rattle.point_day.specs.Calls.{line}
use Rattle.point_day.specs.Struct.{taken, called}
use Rattle.point_day.specs.declared.PointDay.{PointDay}
use Rattle.plain_day.specs.Layout.{is_readable, day_in, stored}
use Rattle.plain_day.specs.Plain.{Plain, plain}

-- a line's arguments: user, kind, consumption, loss coefficient
pub record Line : Type 0 where
  pub user : ℕ
  pub kind : ℕ
  pub consumption : ℕ
  pub coefficient : ℕ

-- line i of four lists
abbrev pub line_in : List ℕ → List ℕ → List ℕ → List ℕ → ℕ → Line
line_in ns ks cs ps i = record { user = at ns i; kind = at ks i; consumption = at cs i; coefficient = at ps i }

-- as many lines as users
abbrev pub lines_in : List ℕ → List ℕ → List ℕ → List ℕ → List Line
lines_in ns ks cs ps = table (line_in ns ks cs ps) (length ns)

-- the refusal that ended the lines, or 0; how many were accepted before it, the losses that these added in all, and the point-day
pub record Entered : Type 0 where
  pub status : ℕ
  pub accepted : ℕ
  pub losses : ℕ
  pub day : PointDay

abbrev pub entered : ℕ → ℕ → ℕ → PointDay → Entered
entered n k l d = record { status = n; accepted = k; losses = l; day = d }

-- one line more, before the others, that added losses
abbrev pub one_more : ℕ → Entered → Entered
one_more l e = entered e.status (1 + e.accepted) (l + e.losses) e.day

-- by the answer of a line call: a refusal, or the losses added
abbrev by_answer : {A : Type 0} → (ℕ → A) → (ℕ → A) → Answer → A
by_answer r a (refused n) = r n
by_answer r a done = a 0
by_answer r a (losses_added l) = a l
by_answer r a (rows_looked_at k) = a 0
by_answer r a (within_tolerance R) = a 0
by_answer r a (revision_assigned R) = a 0

-- the line calls, one after the other, until one is refused
unfoldable pub line_calls : List Line → PointDay → Entered
line_calls [] d = entered 0 0 0 d
line_calls (l ∷ ls) d =
    let o = called (line l.user l.kind l.consumption l.coefficient) d in
    by_answer (λ n. entered n 0 0 o.day) (λ x. one_more x (line_calls ls o.day)) o.answer

-- four lists of equal length
abbrev pub same_lengths : List ℕ → List ℕ → List ℕ → List ℕ → Bool
same_lengths ns ks cs ps = both (eqb (length ns) (length ks)) (both (eqb (length ns) (length cs)) (eqb (length ns) (length ps)))

-- the point-day is tested once, before any line
abbrev pub is_taken : List ℤ → Bool
is_taken xs = both (is_readable xs) (taken (day_in xs))

-- lists of unequal lengths, and a point-day that is not taken, are 2, and no line is entered. How many lines were accepted, and the
-- losses that they added, are given in every case
unfoldable pub plain_lines : List ℕ → List ℕ → List ℕ → List ℕ → List ℤ → Plain
plain_lines ns ks cs ps xs =
    let e = line_calls (lines_in ns ks cs ps) (day_in xs) in
    pick (both (same_lengths ns ks cs ps) (is_taken xs)) (plain e.status (pos e.accepted ∷ pos e.losses ∷ []) (stored e.day xs))
    (plain 2 (pos 0 ∷ pos 0 ∷ []) xs)
