-- The text of an allotted point-day, from what a day file's lines left in arrays and the users' shares of the balance: the contract of the
-- function that writes it. Assumes nothing. No exported contract leans on it.
use Rattle.std.specs.Prelude.{List, [], ◌∷◌, ◌++◌, ℕ, ◌*◌, ℤ, pos, ◌-ℤ◌, take}
use Rattle.numbers.specs.Sums.{table, totalZ}
use Rattle.numbers.specs.Lists.{flat}
use Rattle.point_day.specs.Limits.{KINDS}
use Rattle.day_file.specs.Text.{text_line, point_word}
use Rattle.report.specs.Lines.{slot_line}

-- the consumption of n users
abbrev pub all_consumption : List ℤ → ℕ → ℤ
all_consumption cs n = totalZ (take (KINDS * n) cs)

-- `point` with day, net, consumption, losses, balance: the losses are what consumption leaves of the offtake, the balance what that leaves
-- of net
abbrev pub offtake_line : ℕ → ℕ → ℕ → ℕ → List ℤ → List ℕ
offtake_line day net offtake n cs =
    text_line point_word
    (pos day ∷ pos net ∷ all_consumption cs n ∷ (pos offtake -ℤ all_consumption cs n) ∷ (pos net -ℤ pos offtake) ∷ [])

-- the whole text, with the users' lines
abbrev pub shares_text : ℕ → ℕ → ℕ → ℕ → List ℕ → List ℤ → List ℤ → List ℤ → List ℕ
shares_text day net offtake n us cs ls zs = offtake_line day net offtake n cs ++ flat (table (slot_line us cs ls zs) n)
