-- `calendar::are_holidays` meets its contract: the last holiday stands for all of them. Assumes nothing.
use mathlib.Core.Path.{sym, ap, ◌∙◌}
use native.Mathlib.Omega.{arith}
use Rattle.calendar.specs.Days.{is_gas_day}
use Rattle.calendar.proofs.Holidays.{no_holiday, by_last}
use Rattle.calendar.proofs.are_holidays.Goals as goal

pub returns-in-Some : goal.returns-in-Some
returns-in-Some c =
    let last = c.in-Some.ensures.item.3 in
    c.is_gas_day.ensures ∙ ap is_gas_day (last.1 0) ∙ sym (by_last c.args.holidays.now (omega arith) (sym c.if-not-are_rising.ensures) last.0)

pub returns-in-None : goal.returns-in-None
returns-in-None c = sym (no_holiday c.args.holidays.now (omega (arith, c.in-None.ensures.item.3)) (sym c.if-not-are_rising.ensures))
