-- `plain_day::writes::open_with` meets its contract. Assumes nothing.
use native.Mathlib.Omega.{arith}
use Rattle.plain_day.proofs.writes.Signed.{signed}
use Rattle.plain_day.proofs.writes.open_with.Goals as goal

pub returns : goal.returns
returns c =
    rw (signed c.args.count (omega (arith, c.requires.1)))
