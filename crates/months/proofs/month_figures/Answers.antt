-- `months::month_figures` meets its contract: the figures of the month that the gas day lies in. Assumes nothing.
use native.Mathlib.Omega.{arith}
use Rattle.calendar.specs.Answers.{tested}
use Rattle.months.specs.WorkingDays.{month_call}
use Rattle.months.specs.Months.{month_of}
use Rattle.months.proofs.Months.{month_holds}
use Rattle.months.proofs.Masks.{counted}
use Rattle.calendar.proofs.Holidays.{calendar_day}
use Rattle.months.proofs.month_figures.Goals as goal

pub month_of_day-month-requires : goal.month_of_day-month-requires
month_of_day-month-requires c = calendar_day _ _ c.in_ok-calendar.ensures.given.2

pub mask_of_month-mask-requires : goal.mask_of_month-mask-requires
mask_of_month-mask-requires c =
    let d = c.args.day in
    let l = calendar_day _ _ c.in_ok-calendar.ensures.given.2 in
    let h = month_holds d l in
    let m = c.month_of_day-month.ensures in
    (rw m (omega (arith, h.from, l)), rw m (omega (arith, h.long.most)))

pub returns : goal.returns
unfolding month_call tested
returns c =
    let s = c.args in
    let g = c.in_ok-calendar.ensures.given in
    let h = month_holds s.day (calendar_day _ _ g.2) in
    rw (g.2, c.mask_of_month-mask.ensures, g.1, c.month_of_day-month.ensures, counted s.holidays.now (month_of s.day) (omega (arith, h.long.most)))
