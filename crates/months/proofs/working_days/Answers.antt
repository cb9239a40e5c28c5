-- `months::working_days` meets its contract. The ones of the mask are counted. Assumes nothing.
use mathlib.Core.Path.{ap, ◌∙◌}
use lib.Count.{ones}
use Rattle.months.proofs.Masks.{counted}
use Rattle.months.proofs.working_days.Goals as goal

pub returns : goal.returns
returns c =
    let s = c.args in
    ap ones c.mask_of_month.ensures ∙ counted s.calendar.now.holidays.now s.month c.requires.1
