use mathlib.Core.Path.{sym}
use Rattle.plain_values.proofs.Spelled.{as_many}
use Rattle.plain_values.proofs.HistoryListsEntries.count.Goals as goal

pub returns : goal.returns
returns c = sym (as_many c.args.self.now.tags.now c.args.self.now.values.now)
