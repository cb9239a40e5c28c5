-- The numbers of document 01's sections "The point-day" and "Refusals", each by a name. Assumes nothing.
use Rattle.std.specs.Prelude.{ℕ, ◌*◌}

-- "up to 64 users, numbered 1 to 65,535", "five kinds"
abbrev pub USERS : ℕ
USERS = 64

abbrev pub LAST_NUMBER : ℕ
LAST_NUMBER = 65535

abbrev pub KINDS : ℕ
KINDS = 5

-- "320 of each": a cell for each user and kind
abbrev pub CELLS : ℕ
CELLS = KINDS * USERS

-- emission, consumption, losses, and sums of a point-day: "0 to 1,000,000,000"
abbrev pub LIMIT : ℕ
LIMIT = 1000000000

-- balance, revision, whole amount, a stand-in's amount: at most this in size
abbrev pub AMOUNT : ℕ
AMOUNT = 2000000000

-- "loss coefficient 0 to 10,000 in parts of 100,000"
abbrev pub COEFFICIENT : ℕ
COEFFICIENT = 10000

abbrev pub PARTS : ℕ
PARTS = 100000

-- "fifteen rows"
abbrev pub ROWS : ℕ
ROWS = 15

-- the tolerance of revise and stand-in: "−100 to 100", "net at most 100"
abbrev pub TOLERANCE : ℕ
TOLERANCE = 100
