-- A call with its arguments, and lists of calls: what the day book is fed. Assumes nothing.
use Rattle.std.specs.Prelude.{List, ℕ}
use Rattle.point_day.specs.Day.{Pair}

-- one of the seven calls; line in both forms, by value and "as an edit of a point-day that the caller lends"
pub data Call : Type 0 where
  join : ℕ → Call
  line lent_line : ℕ → ℕ → ℕ → ℕ → Call
  measure : ℕ → ℕ → Call
  allot : Call
  stand_in : List (List Pair) → Call
  revise : Call
  start_final : Call

-- a list of calls, in their order
pub data Calls : Type 0 where
  none : Calls
  ◌then◌ : Calls → Call → Calls

infixl 5 ◌then◌
-- a line's arguments: user, kind, consumption, loss coefficient
pub record Line : Type 0 where
  pub user : ℕ
  pub kind : ℕ
  pub consumption : ℕ
  pub coefficient : ℕ

abbrev pub a_line : ℕ → ℕ → ℕ → ℕ → Line
a_line n kind c k = record { user = n; kind = kind; consumption = c; coefficient = k }

-- by the call: of join, of line in both forms, of measure, of allot, of stand-in, of revise, of start-final
abbrev pub by_call : {A : Type 0} → (ℕ → A) → (Line → A) → (ℕ → ℕ → A) → A → (List (List Pair) → A) → A → A → Call → A
by_call j l m a s r f (join n) = j n
by_call j l m a s r f (line n kind c k) = l (a_line n kind c k)
by_call j l m a s r f (lent_line n kind c k) = l (a_line n kind c k)
by_call j l m a s r f (measure emission downstream) = m emission downstream
by_call j l m a s r f allot = a
by_call j l m a s r f (stand_in rows) = s rows
by_call j l m a s r f revise = r
by_call j l m a s r f start_final = f
