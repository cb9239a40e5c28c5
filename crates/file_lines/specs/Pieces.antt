-- What a line and a user of a day file come to, by their numbers, and what they leave. Assumes nothing. No exported contract leans on it.
use Rattle.std.specs.Prelude.{List, ℕ, ◌+◌, leb, eqb, take, pos, replicate, set}
use Rattle.numbers.specs.Sums.{pick}
use Rattle.numbers.specs.Lists.{has}
use Rattle.point_day.specs.Limits.{USERS, CELLS}
use Rattle.point_day.specs.Calls.{line_right}
use Rattle.state.specs.Places.{more}
use Rattle.line.specs.Cell.{line_losses, past_limit, place}
use Rattle.line.specs.declared.cells.LineEntry.{LineEntry}
use Rattle.file_lines.specs.declared.lines.Entering.{Entering}

-- no user has joined
abbrev pub nothing_entered : Entering
nothing_entered = record { users = replicate USERS 0; consumption = replicate CELLS (pos 0); losses = replicate CELLS (pos 0); offtake = 0 }

-- ---- a line, by its numbers

-- the number of the refusal, or 0
abbrev pub line_refusal : LineEntry → ℕ → ℕ
line_refusal e offtake = pick (line_right e.user e.kind e.consumption e.coefficient) (pick (past_limit offtake e.consumption e.coefficient) 6 0) 2

-- all consumption and losses with the line, where they were `offtake` before
abbrev pub offtake_with : LineEntry → ℕ → ℕ
offtake_with e offtake = offtake + (e.consumption + line_losses e.consumption e.coefficient)

-- the line at the cell of a slot; the sum of all lines is kept apart
abbrev pub lined : ℕ → LineEntry → Entering → Entering
lined slot e a = record a {
  consumption = more (place slot e.kind) e.consumption a.consumption;
  losses = more (place slot e.kind) (line_losses e.consumption e.coefficient) a.losses;
}

-- ---- a user, by the slots before

-- the number of the refusal, or 0, if so many may join
abbrev pub user_refusal : ℕ → ℕ → ℕ → List ℕ → ℕ
user_refusal limit n slot us = pick (eqb n 0) 2 (pick (has n (take slot us)) 4 (pick (leb limit slot) 5 0))

-- the user in the slot
abbrev pub joined : ℕ → ℕ → Entering → Entering
joined slot n a = record a { users = set a.users slot n }
