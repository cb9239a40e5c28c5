-- A law for readers beside the contract of `lines`: many lines are line calls on the numbers, one after the other, each reading what the
-- one before left, until one is refused. Assumes nothing. No contract leans on it.
use Rattle.std.specs.Prelude.{◌≡◌, true, List, [], ◌∷◌, ℕ, ◌+◌, ◌≤◌, eqb, ℤ, pos, nat_abs, length}
use Rattle.numbers.specs.Sums.{pick, atZ}
use Rattle.point_day.specs.Calls.{line}
use Rattle.point_day.specs.Struct.{called}
use Rattle.plain_day.specs.Lines.{Line, lines_in, same_lengths, is_taken, plain_lines}
use Rattle.plain_day.specs.Plain.{Plain, plain, plain_call}

-- what line calls on numbers came to: the refusal that ended them, or 0; how many were accepted before it, the losses that these added
-- in all, and the numbers afterwards
pub record Made : Type 0 where
  pub status : ℕ
  pub accepted : ℕ
  pub losses : ℕ
  pub numbers : List ℤ

abbrev pub made : ℕ → ℕ → ℕ → List ℤ → Made
made n k l xs = record { status = n; accepted = k; losses = l; numbers = xs }

-- one line more, before the others, that added losses
abbrev pub one_before : ℕ → Made → Made
one_before l r = made r.status (1 + r.accepted) (l + r.losses) r.numbers

-- a line call on numbers, 0 standing behind its pointer
abbrev pub line_call : Line → List ℤ → Plain
line_call l xs = plain_call (called (line l.user l.kind l.consumption l.coefficient)) (pos 0 ∷ []) xs

-- after a call that is accepted, that is, whose status is 0, the next is made on the numbers that it left; its losses stand behind its
-- pointer
unfoldable pub one_by_one : List Line → List ℤ → Made
one_by_one [] xs = made 0 0 0 xs
one_by_one (l ∷ ls) xs =
    let p = line_call l xs in
    pick (eqb p.status 0) (one_before (nat_abs (atZ p.values 0)) (one_by_one ls p.numbers)) (made p.status 0 0 p.numbers)

-- the same as the answer of many lines
abbrev pub answered : Made → Plain
answered r = plain r.status (pos r.accepted ∷ pos r.losses ∷ []) r.numbers

-- many lines are the lines one by one: on every point-day that is taken, and on any numbers if there is a line. (No line on a point-day
-- that is not taken is 2, for the point-day is tested in any case.)
pub record OneByOne (ns ks cs ps : List ℕ) (xs : List ℤ) : Type 0 where
  pub on_taken : is_taken xs ≡ true → plain_lines ns ks cs ps xs ≡ answered (one_by_one (lines_in ns ks cs ps) xs)
  pub some_line : 1 ≤ length ns → plain_lines ns ks cs ps xs ≡ answered (one_by_one (lines_in ns ks cs ps) xs)

-- of four lists of equal length
abbrev pub LinesOneByOne : Type 0
LinesOneByOne = (ns ks cs ps : List ℕ) (xs : List ℤ) → same_lengths ns ks cs ps ≡ true → OneByOne ns ks cs ps xs
