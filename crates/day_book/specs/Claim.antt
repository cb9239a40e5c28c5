-- Demand 3: the point-day and the day book after every list of calls. Assumes nothing.
use Rattle.std.specs.Prelude.{◌≡◌, Bool, true, false, List, [], ◌∷◌, ◌≤◌, nat_abs, ◌-ℤ◌}
use Rattle.numbers.specs.Sums.{pick}
use Rattle.numbers.specs.Lists.{both}
use Rattle.point_day.specs.Answers.{Answer}
use Rattle.point_day.specs.declared.PointDay.{PointDay}
use Rattle.day_book.specs.Calls.{Call, Calls, none, ◌then◌, Line, by_call}
use Rattle.day_book.specs.Run.{run, answer_after, answers, verdict_of, accepts}
use Rattle.day_book.specs.Book.{TOLERANCE, net_of, book, book_answers}
use Rattle.day_book.specs.Arrays.{everything, Holds}
use Rattle.day_book.specs.Shares.{CallShared}

-- the call of a list was accepted: the point-day's own answer
abbrev pub accepted_after : Calls → Call → Bool
accepted_after cs c = accepts (verdict_of (answer_after cs c))

-- the lines accepted in the stage, the latest first: an accepted line is one more, an accepted start-final begins a stage
unfoldable pub stage_lines : Calls → List Line
stage_lines none = []
stage_lines (cs then c) =
    let ls = stage_lines cs in
    pick (accepted_after cs c) (by_call (λ n. ls) (λ l. l ∷ ls) (λ e w. ls) ls (λ rows. ls) ls [] c) ls

-- the shares that the calls of a list gave, each at the step that gave it
unfoldable pub AllShared : Calls → Type 0
AllShared none = Unit {0}
AllShared (cs then c) = AllShared cs × CallShared c (answer_after cs c) (book cs) (run (cs then c))

-- the list ends in an accepted revise
abbrev pub is_revise : Call → Bool
is_revise c = by_call (λ n. false) (λ l. false) (λ e w. false) false (λ rows. false) true false c

unfoldable pub ends_revised : Calls → Bool
ends_revised none = false
ends_revised (cs then c) = both (is_revise c) (accepted_after cs c)

pub record Demand3 (cs : Calls) : Type 0 where
  -- the book fed the same list has refused the same calls, with the same numbers, and would have answered the others alike: losses
  -- added, rows looked at, R
  pub same_answers : answers cs ≡ book_answers cs
  -- and holds the same: stage, users, measurement, consumption, losses, balance and revisions
  pub holds_the_same : Holds (run cs) (book cs)
  -- consumption and losses are those of the lines accepted in that stage
  pub of_lines : (book cs).lines ≡ stage_lines cs
  -- if the point-day stands allotted, its users' consumption, losses, signed balance and revisions add up to the settled net
  pub adds_up : (run cs).allotted ≡ true → everything (run cs) ≡ (book cs).settled
  -- every share of balance or revision that a call of the list gave, also one cleared or overwritten later, is less than 1 kWh from
  -- its exact proportion by document 01's weights, a kind's of its user's share
  pub shares : AllShared cs
  -- if the list ends in an accepted revise, the current net emission is at most 100 kWh from that sum
  pub close : ends_revised cs ≡ true → nat_abs (net_of (run cs).measurement -ℤ everything (run cs)) ≤ TOLERANCE

-- the same of what calls returned: results that meet the contracts, one after the other, are those of the claim
pub record Returned (cs : Calls) (ss : List Answer) (d : PointDay) : Type 0 where
  pub the_answers : ss ≡ answers cs
  pub the_day : d ≡ run cs
  pub demand : Demand3 cs
