use mathlib.Core.Path.{◌≡◌}
use Rattle.numbers.specs.Sums.{at}
use Rattle.proration.specs.Proration.{before}
use Rattle.proration.proofs.Parties.count_ahead.Given as goal

abbrev pub invariant-loop-j : goal.invariant-loop-j
invariant-loop-j l = l.count ≡ before (at l.self.rems.now) (at l.self.keys.now) l.j l.party.rem l.party.key
