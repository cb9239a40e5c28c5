-- Document 01, section "Day file and inventory": the calls that a day file stands for. Assumes nothing.
use Rattle.std.specs.Prelude.{List, [], ◌∷◌, ◌++◌, map, ℕ, ◌+◌, ◌*◌}
use Rattle.numbers.specs.Sums.{table}
use Rattle.numbers.specs.Lists.{flat}
use Rattle.day_book.specs.Run.{Call, join, line, measure, allot}
use Rattle.day_file.specs.declared.Section.{Section}
use Rattle.day_file.specs.Form.{u8, u16, u32, emission, downstream, sections, USER, LINE, line_count}

-- "then measure, the sections' joins and lines in order, and allot"

abbrev pub user_of : List ℕ → Section → ℕ
user_of f s = u16 f s.offset

-- line j of a section
abbrev pub line_at : List ℕ → Section → ℕ → Call
line_at f s j =
    let i = s.offset + USER + LINE * j in
    line (user_of f s) (u8 f i) (u32 f (i + 1)) (u16 f (i + 5))

abbrev pub section_calls : List ℕ → Section → List Call
section_calls f s = join (user_of f s) ∷ table (line_at f s) (line_count s)

unfoldable pub file_calls : List ℕ → List Call
file_calls f = measure (emission f) (downstream f) ∷ (flat (map (section_calls f) (sections f)) ++ (allot ∷ []))
