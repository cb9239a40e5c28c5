-- Document 01, "Calendar": gas days and holidays. Assumes nothing.
use Rattle.std.specs.Prelude.{Bool, List, ℕ, leb, length}
use Rattle.numbers.specs.Lists.{both, every, rising}

-- "Gas days are numbered from 0 .. to 30,680"
abbrev pub LAST_DAY : ℕ
LAST_DAY = 30680

-- "up to 2,000 rising day numbers"
abbrev pub MOST_HOLIDAYS : ℕ
MOST_HOLIDAYS = 2000

abbrev pub is_gas_day : ℕ → Bool
is_gas_day d = leb d LAST_DAY

-- a list of holidays as stated
unfoldable pub holidays_right : List ℕ → Bool
holidays_right hs = both (leb (length hs) MOST_HOLIDAYS) (both (rising hs) (every is_gas_day hs))

-- a gas day and holidays as stated
unfoldable pub calendar_right : ℕ → List ℕ → Bool
calendar_right d hs = both (is_gas_day d) (holidays_right hs)
