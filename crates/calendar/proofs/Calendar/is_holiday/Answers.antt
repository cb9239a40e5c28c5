-- `calendar::Calendar::is_holiday` meets its contract: a search of rising numbers finds a day that stands among them. Assumes nothing.
use mathlib.Core.Path.{◌∙◌}
use Rattle.calendar.proofs.Holidays.{searched_has}
use Rattle.calendar.proofs.Calendar.is_holiday.Goals as goal

pub returns : goal.returns
returns c = c.is_ok.ensures.value ∙ searched_has _ _ _ c.binary_search.ensures.position c.args.self.now.rises
