-- Document 01, section "Refusals", and the rows of document 02: the table, a call's tests, and the first that holds. Assumes nothing.
use Rattle.std.specs.Prelude.{Bool, List, [], ◌∷◌, ◌≡◌, ℕ}
use Rattle.std.specs.Prelude.{Result, Ok, Err}
use Rattle.numbers.specs.declared.Refusal.{Refusal}
use Rattle.numbers.specs.declared.Refusal.TheVariants.{WrongStage, OutOfRange, NotJoined, AlreadyJoined, AllJoined, AboveLimit, Unmeasured, NoUser, NetTooLow, NoPair, NegativeWeight, AmountTooLarge, Malformed, ShortBuffer, NoBasis, WrongArrival}
use Rattle.numbers.specs.Sums.{pick}

-- ---- the table

-- "the stage doesn't take the call, or a stand-in finds a user joined"
abbrev pub WRONG_STAGE : ℕ
WRONG_STAGE = 1

-- "a value or list outside its stated range"
abbrev pub OUT_OF_RANGE : ℕ
OUT_OF_RANGE = 2

-- "line for a user not joined"
abbrev pub NOT_JOINED : ℕ
NOT_JOINED = 3

-- "user already joined"
abbrev pub ALREADY_JOINED : ℕ
ALREADY_JOINED = 4

-- "all 64 users joined"
abbrev pub ALL_JOINED : ℕ
ALL_JOINED = 5

-- "point-day sum, or a computed consumption, above 1,000,000,000; Type 2 product above 10^12 Wh"
abbrev pub ABOVE_LIMIT : ℕ
ABOVE_LIMIT = 6

-- "allot or stand-in unmeasured"
abbrev pub UNMEASURED : ℕ
UNMEASURED = 7

-- "allot with no user"
abbrev pub NO_USER : ℕ
NO_USER = 8

-- "stand-in with net at most 100"
abbrev pub NET_TOO_LOW : ℕ
NET_TOO_LOW = 9

-- "no pair in fifteen rows"
abbrev pub NO_PAIR : ℕ
NO_PAIR = 10

-- "a weight is negative (revise outside tolerance, stand-in, reading split)"
abbrev pub NEGATIVE_WEIGHT : ℕ
NEGATIVE_WEIGHT = 11

-- "a whole amount would pass 2,000,000,000 in size"
abbrev pub AMOUNT_TOO_LARGE : ℕ
AMOUNT_TOO_LARGE = 12

-- "day file malformed"
abbrev pub MALFORMED : ℕ
MALFORMED = 13

-- "lent buffer under five numbers a row (inventory) or one a day (reading split)"
abbrev pub SHORT_BUFFER : ℕ
SHORT_BUFFER = 14

-- "no basis for an estimate"
abbrev pub NO_BASIS : ℕ
NO_BASIS = 15

-- document 02, Req 01: "length is none of the three, or arrival exceeds it; checked right after 2"
abbrev pub WRONG_ARRIVAL : ℕ
WRONG_ARRIVAL = 16

-- ---- tests

-- a row of the table of refusals: its number, and whether its condition holds
pub record Test : Type 0 where
  pub number : ℕ
  pub holds : Bool

abbrev pub ◌when◌ : ℕ → Bool → Test
n when b = record { number = n; holds = b }

infix 5 ◌when◌
-- whether a call is refused, and by which number
pub data Verdict : Type 0 where
  refuse : ℕ → Verdict
  accept : Verdict

-- "If several apply, the row higher up decides"; a call's tests stand in that order, 16 right after those of 2
unfoldable pub verdict : List Test → Verdict
verdict [] = accept
verdict (t ∷ ts) = pick t.holds (refuse t.number) (verdict ts)

-- ---- the code's enum

-- the documents' number of each case
abbrev pub number_of : Refusal → ℕ
number_of WrongStage = WRONG_STAGE
number_of OutOfRange = OUT_OF_RANGE
number_of NotJoined = NOT_JOINED
number_of AlreadyJoined = ALREADY_JOINED
number_of AllJoined = ALL_JOINED
number_of AboveLimit = ABOVE_LIMIT
number_of Unmeasured = UNMEASURED
number_of NoUser = NO_USER
number_of NetTooLow = NET_TOO_LOW
number_of NoPair = NO_PAIR
number_of NegativeWeight = NEGATIVE_WEIGHT
number_of AmountTooLarge = AMOUNT_TOO_LARGE
number_of Malformed = MALFORMED
number_of ShortBuffer = SHORT_BUFFER
number_of NoBasis = NO_BASIS
number_of WrongArrival = WRONG_ARRIVAL

-- what the conversion gives
abbrev pub Numbers : Refusal → ℕ → Type 0
Numbers r n = n ≡ number_of r

-- 0, or the documents' number of the refusal
abbrev pub status_of : {A : Type 0} → Result A Refusal → ℕ
status_of (Ok _) = 0
status_of (Err r) = number_of r
