-- `split::leftover::serve` meets its contract. Assumes nothing.
use Rattle.std.proofs.Common.{length}
use Rattle.numbers.specs.Sums.{at}
use Rattle.split.proofs.leftover.Cut.{none_left}
use Rattle.split.proofs.leftover.serve.Goals as goal

pub returns-then-left-eq0 : goal.returns-then-left-eq0
returns-then-left-eq0 c =
    let p = c.args.parties.now in
    none_left (at p.rems.now) (at p.keys.now) c.args.shares.now (length p.rems.now) c.requires.room c.if-left-eq0.true
