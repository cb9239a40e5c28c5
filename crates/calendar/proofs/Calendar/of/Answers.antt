-- `calendar::Calendar::of` meets its contract: holidays as stated rise. Assumes nothing.
use mathlib.Core.Path.{sym, ◌∙◌}
use Rattle.calendar.proofs.Holidays.{calendar_rising}
use Rattle.calendar.proofs.Calendar.of.Goals as goal

pub invariant_of-result : goal.invariant_of-result
invariant_of-result c = record { rises = calendar_rising _ _ (sym c.is_calendar.ensures ∙ c.if-is_calendar.true) }
