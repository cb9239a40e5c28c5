-- Room for a report's text. Assumes nothing.
use Rattle.std.specs.Prelude.{ℕ}

-- room for the longest text: a line for the point and one for each of 64 users
abbrev pub REPORT_ROOM : ℕ
REPORT_ROOM = 8192
