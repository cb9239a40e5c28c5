-- Many lines on a point-day in plain numbers: hints where users stand, and what lines come to. Assumes nothing. No exported contract leans on it.
use Rattle.std.specs.Prelude.{List, [], ◌∷◌, ℕ, ℤ, pos}
use Rattle.plain_day.specs.Layout.{stored}
use Rattle.plain_day.specs.Lines.{Entered}
use Rattle.plain_day.specs.Plain.{Plain, plain}

-- remainders of user numbers by which slots are hinted at
abbrev pub HINTS : ℕ
HINTS = 1024

-- what lines came to, in plain numbers
abbrev pub in_numbers : Entered → List ℤ → Plain
in_numbers e xs = plain e.status (pos e.accepted ∷ pos e.losses ∷ []) (stored e.day xs)
