-- `line::slot_test` meets its contract, outcome by outcome, on any point-day that stands so. Assumes nothing.
use mathlib.Core.Path.{◌≡◌, refl}
use mathlib.Core.Bool.{true, false}
use native.Mathlib.Omega.{arith}
use borrow.Author.Rules.{rules}
use Rattle.point_day.specs.Calls.{line_right}
use Rattle.numbers.proofs.Refusals.{refusal_passed}
use Rattle.line.proofs.cells.Ranges.{ranges}
use Rattle.line.proofs.cells.Cells.{limit_refused, limit_passed}
use Rattle.line.proofs.Lining.{standing_at, line_2, line_3, line_6, line_passed}
use Rattle.line.proofs.slot_test.Goals as goal

pub returns-then-not-is_right : goal.returns-then-not-is_right
returns-then-not-is_right c us n d s p =
    let a = c.args.entry in
    let h : line_right a.user a.kind a.consumption a.coefficient ≡ false = search rules in
    line_2 a.user a.kind a.consumption a.coefficient d s.sized s.is_taken s.entering h

pub returns-in_default : goal.returns-in_default
returns-in_default c us n d s p =
    let a = c.args.entry in
    let h : line_right a.user a.kind a.consumption a.coefficient ≡ true = search rules in
    line_3 a.user a.kind a.consumption a.coefficient d s.sized s.is_taken s.entering h (rw (s.joined, s.users) (rw c.in_default.is at p))

pub losses_within-requires : goal.losses_within-requires
losses_within-requires c =
    let a = c.args.entry in
    let r = ranges a.user a.kind a.consumption a.coefficient (search rules) in
    (r.consumption, r.coefficient, c.requires.1)

pub returns-in_err-added : goal.returns-in_err-added
returns-in_err-added c us n d s p =
    let a = c.args.entry in
    let h : line_right a.user a.kind a.consumption a.coefficient ≡ true = search rules in
    let q = standing_at s a.user c.in-Some.slot (rw c.in-Some.is at p) in
    let l = limit_refused c.args.offtake a.consumption a.coefficient c.in_err-added.ensures in
    rw (refusal_passed _ _ c.from_residual.ensures.1, l.0) (line_6 a.user a.kind a.consumption a.coefficient d s.sized s.is_taken s.entering h c.in-Some.slot q.0 q.1 c.args.offtake _ s.sum refl l.1)

pub place-requires : goal.place-requires
place-requires c =
    let a = c.args.entry in
    let r = ranges a.user a.kind a.consumption a.coefficient (search rules) in
    (rw c.in-Some.is at c.requires.0, r.low, r.high)

pub returns : goal.returns
returns c us n d s p =
    let a = c.args.entry in
    let h : line_right a.user a.kind a.consumption a.coefficient ≡ true = search rules in
    let q = standing_at s a.user c.in-Some.slot (rw c.in-Some.is at p) in
    let l = limit_passed c.args.offtake a.consumption a.coefficient c.in_ok-added.ensures in
    rw c.place.ensures.0 (line_passed a.user a.kind a.consumption a.coefficient d s.sized s.is_taken s.entering h c.in-Some.slot q.0 q.1 c.args.offtake c.in_ok-added.added s.sum l.0 l.1)
