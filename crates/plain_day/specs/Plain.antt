-- A call on a point-day in plain numbers: its status, the numbers behind its pointers, and the point-day afterwards. Assumes nothing.
use Rattle.std.specs.Prelude.{Result, Ok, Err, List, [], ◌∷◌, ℕ, eqb, ℤ, pos, length}
use Rattle.numbers.specs.Sums.{pick}
use Rattle.numbers.specs.Refusals.{number_of}
use Rattle.numbers.specs.declared.Refusal.{Refusal}
use Rattle.point_day.specs.Answers.{Answer, refused, done, losses_added, rows_looked_at, within_tolerance, revision_assigned}
use Rattle.point_day.specs.Day.{fresh}
use Rattle.point_day.specs.Struct.{Outcome, laid}
use Rattle.point_day.specs.declared.PointDay.{PointDay}
use Rattle.plain_day.specs.Layout.{LENGTH, is_readable, day_in, stored, numbers_of}

-- what a call gives back: 0 or the number of the refusal, the values behind its pointers, and the numbers of the point-day
pub record Plain : Type 0 where
  pub status : ℕ
  pub values : List ℤ
  pub numbers : List ℤ

abbrev pub plain : ℕ → List ℤ → List ℤ → Plain
plain n vs xs = record { status = n; values = vs; numbers = xs }

-- what the code's answer r stands for: its values, or the number of the refusal and the values that were there before
abbrev pub answered : {A : Type 0} → (A → List ℤ) → Result A Refusal → List ℤ → List ℤ → Plain
answered values (Ok a) before xs = plain 0 (values a) xs
answered values (Err r) before xs = plain (number_of r) before xs

-- a refused call changes nothing; an accepted one stores the point-day afterwards and gives the values that document 01 names. Of a
-- revise these are 1 if R is within the tolerance, and then the point-day stays, 0 if it is assigned; and R
abbrev pub given : Answer → PointDay → List ℤ → List ℤ → Plain
given (refused n) d vs xs = plain n vs xs
given done d vs xs = plain 0 vs (stored d xs)
given (losses_added l) d vs xs = plain 0 (pos l ∷ []) (stored d xs)
given (rows_looked_at k) d vs xs = plain 0 (pos k ∷ []) (stored d xs)
given (within_tolerance R) d vs xs = plain 0 (pos 1 ∷ R ∷ []) xs
given (revision_assigned R) d vs xs = plain 0 (pos 0 ∷ R ∷ []) (stored d xs)

-- numbers that no point-day is read from are a list outside its stated range
unfoldable pub plain_call : (PointDay → Outcome) → List ℤ → List ℤ → Plain
plain_call call vs xs = pick (is_readable xs) (given (call (day_in xs)).answer (call (day_in xs)).day vs xs) (plain 2 vs xs)

-- a fresh point-day, in as many numbers
unfoldable pub plain_fresh : List ℤ → Plain
plain_fresh xs = pick (eqb (length xs) LENGTH) (plain 0 [] (numbers_of (laid fresh))) (plain 2 [] xs)
