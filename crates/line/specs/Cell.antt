-- What a line answers and writes at its cell. Assumes nothing. No exported contract leans on it.
use Rattle.std.specs.Prelude.{Result, Ok, Err, Bool, List, ℕ, ◌+◌, ◌-◌, ◌*◌, ltb, ℤ}
use Rattle.numbers.specs.Sums.{pick, atZ}
use Rattle.numbers.specs.Amounts.{Within}
use Rattle.point_day.specs.Limits.{KINDS, LIMIT}
use Rattle.point_day.specs.Calls.{cell_step}
use Rattle.numbers.specs.declared.Refusal.{Refusal}
use Rattle.numbers.specs.declared.Refusal.TheVariants.{AboveLimit}

-- the losses that a line adds
abbrev pub line_losses : ℕ → ℕ → ℕ
line_losses c k = (cell_step c k (record { consumption = 0; losses = 0 })).added

-- a line whose consumption and losses would pass the limit, on top of all consumption and losses so far
abbrev pub past_limit : ℕ → ℕ → ℕ → Bool
past_limit sum c k = ltb LIMIT (sum + (c + line_losses c k))

-- what it comes to: refusal 6, or the losses that it adds
abbrev pub line_on : ℕ → ℕ → ℕ → Result ℕ Refusal
line_on sum c k = pick (past_limit sum c k) (Err AboveLimit) (Ok (line_losses c k))

-- the cell of a slot and kind
abbrev pub place : ℕ → ℕ → ℕ
place slot kind = KINDS * slot + (kind - 1)

-- no cell is above the limit of all of them
abbrev pub Limited : List ℤ → Type 0
Limited xs = (i : ℕ) → Within LIMIT (atZ xs i)
