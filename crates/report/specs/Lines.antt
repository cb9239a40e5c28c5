-- The lines of a report from the arrays of a point-day: the contracts of the functions that write them. Assumes nothing. No exported
-- contract leans on it.
use Rattle.std.specs.Prelude.{List, [], ◌∷◌, ℕ, ℤ, pos, ◌+ℤ◌, get_or}
use Rattle.numbers.specs.Sums.{atZ, totalZ}
use Rattle.point_day.specs.Struct.{kinds_of}
use Rattle.day_file.specs.Text.{text_line, user_word}

-- a number after its space is no longer
abbrev pub NUMBER : ℕ
NUMBER = 22

-- no line is longer
abbrev pub LONGEST_LINE : ℕ
LONGEST_LINE = 116

-- the amounts of slot s over all kinds
abbrev pub of_slot : List ℤ → ℕ → ℤ
of_slot xs s = totalZ (kinds_of s xs)

-- the line of slot s: its user's number, consumption and losses, its share as balance, and the whole amount, without revision
abbrev pub slot_line : List ℕ → List ℤ → List ℤ → List ℤ → ℕ → List ℕ
slot_line us cs ls zs s =
    text_line user_word
    (pos (get_or us s 0) ∷ of_slot cs s ∷ of_slot ls s ∷ atZ zs s ∷ ((of_slot cs s +ℤ of_slot ls s) +ℤ atZ zs s) ∷ [])
