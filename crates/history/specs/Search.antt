-- Document 01, "Telemetered": the search for the last three real readings, and what it finds. Assumes nothing. No exported contract leans
-- on it.
use Rattle.std.specs.Prelude.{not, List, ℕ, length, get_or}
use Rattle.history.specs.History.{Dated, last_three, sum_of, looked_at, is_new}
use Rattle.history.specs.declared.Reading.TheVariants.{Nothing}
use Rattle.history.specs.declared.Entry.{Entry}
use Rattle.history.specs.declared.Found.{Found}

-- what a search of n entries yields: the sum and the number of the last three, the entries looked at, and whether any is real
unfoldable pub found_in : List ℕ → ℕ → ℕ → List Dated → Found
found_in hs d n xs =
    let ms = last_three hs d xs in
    record { sum = sum_of ms; matches = length ms; looked = looked_at d n ms; real = not (is_new xs) }

-- the entry at a place
abbrev pub entry_at : List Entry → ℕ → Entry
entry_at es i = get_or es i (record { reading = Nothing })
