-- Document 01, section "Day file and inventory": cases. File E is example P1, in crate `examples`. Assumes nothing.
use Rattle.std.specs.Prelude.{◌≡◌, refl, List, [], ◌∷◌, ℕ}
use Rattle.numbers.specs.Sums.{table}
use Rattle.numbers.specs.Lists.{every, flat}
use Rattle.wire.specs.Bytes.{little_endian}
use Rattle.wire.specs.Text.{digits_of, natural, decimal}
use Rattle.day_book.specs.Run as run
use Rattle.day_file.specs.Form.{sorted, none_overlap, sections_right, well_formed}
use Rattle.day_file.specs.File.{file_calls}
use Rattle.day_file.specs.Report.{refused, report}
use Rattle.day_file.specs.Text.{spaced, text}

-- day 0, emission 5, downstream 1: user 3 with a line of kind 2, 4, 6, and user 8 without a line
two_users : List ℕ
two_users =
    82 ∷ 69 ∷ 80 ∷ 49 ∷ 0 ∷ 0 ∷ 0 ∷ 0 ∷ 5 ∷ 0 ∷ 0 ∷ 0 ∷ 1 ∷ 0 ∷ 0 ∷ 0 ∷ 2 ∷ 0
    ∷ 34 ∷ 0 ∷ 0 ∷ 0 ∷ 9 ∷ 0 ∷ 0 ∷ 0
    ∷ 43 ∷ 0 ∷ 0 ∷ 0 ∷ 2 ∷ 0 ∷ 0 ∷ 0
    ∷ 3 ∷ 0 ∷ 2 ∷ 4 ∷ 0 ∷ 0 ∷ 0 ∷ 6 ∷ 0
    ∷ 8 ∷ 0
    ∷ []

-- "then measure, the sections' joins and lines in order, and allot"
calls_in_order : file_calls two_users ≡ run.measure 5 1 ∷ run.join 3 ∷ run.line 3 2 4 6 ∷ run.join 8 ∷ run.allot ∷ []
unfolding two_users file_calls little_endian table flat
calls_in_order = refl

-- a refusal
text_of_13 : text (refused 13) ≡ 114 ∷ 101 ∷ 102 ∷ 117 ∷ 115 ∷ 101 ∷ 100 ∷ 32 ∷ 49 ∷ 51 ∷ 10 ∷ []
unfolding text spaced decimal natural digits_of
text_of_13 = refl

-- "Anything else is 13; then a day number out of range is 2": day 30,681 in a file without sections, and with a pair that is not there
late_day : ℕ → List ℕ
late_day pairs = 82 ∷ 69 ∷ 80 ∷ 49 ∷ 217 ∷ 119 ∷ 0 ∷ 0 ∷ 0 ∷ 0 ∷ 0 ∷ 0 ∷ 0 ∷ 0 ∷ 0 ∷ 0 ∷ pairs ∷ 0 ∷ []

late_day_is_2 : report (late_day 0) ≡ refused 2
unfolding late_day report well_formed sections_right sorted none_overlap little_endian table every
late_day_is_2 = refl

malformed_late_day_is_13 : report (late_day 1) ≡ refused 13
unfolding late_day report well_formed sections_right sorted none_overlap little_endian table every
malformed_late_day_is_13 = refl
