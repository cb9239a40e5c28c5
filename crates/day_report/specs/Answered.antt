-- Document 01, section "Day file and inventory": the report on a day file in a lent buffer. The file's refusal comes first, then 14, the
-- number of a lent buffer that is too short; what is refused leaves the buffer as it was. Assumes nothing.
use Rattle.std.specs.Prelude.{◌≡◌, refl, List, [], ℕ, leb, length}
use Rattle.numbers.specs.Sums.{pick}
use Rattle.point_day.specs.Day.{Day}
use Rattle.calendar.specs.Answers.{Answer, refused, given}
use Rattle.wire.specs.Text.{written}
use Rattle.day_file.specs.Form.{well_formed}
use Rattle.day_file.specs.Report.{Report, refused as file_refused, allotted, report}
use Rattle.day_file.specs.Text.{text}
use Rattle.report.specs.Room.{REPORT_ROOM}

-- the text of a report that goes into a buffer of so many bytes
abbrev pub text_for : ℕ → Report → Answer (List ℕ)
text_for room (file_refused n) = refused n
text_for room (allotted day d) = pick (leb REPORT_ROOM room) (given (text (allotted day d))) (refused 14)

-- what a file and a buffer of so many bytes give: the number of a refusal, or the text
abbrev pub report_call : List ℕ → ℕ → Answer (List ℕ)
report_call f room = text_for room (report f)

-- the buffer afterwards
abbrev pub buffer_after : Answer (List ℕ) → List ℕ → List ℕ
buffer_after (refused n) out = out
buffer_after (given t) out = written out 0 t

-- how many bytes the text has
abbrev pub size_of : Answer (List ℕ) → Answer ℕ
size_of (refused n) = refused n
size_of (given t) = given (length t)

-- ---- cases

-- a malformed file is 13 without room too
malformed_without_room : report_call [] 0 ≡ refused 13
unfolding report well_formed
malformed_without_room = refl

-- 8,191 bytes are too few for any report, 8,192 enough
one_byte_short : (day : ℕ) (d : Day) → text_for 8191 (allotted day d) ≡ refused 14
one_byte_short day d = refl

just_the_room : (day : ℕ) (d : Day) → text_for 8192 (allotted day d) ≡ given (text (allotted day d))
just_the_room day d = refl
