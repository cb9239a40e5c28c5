-- `seatpomelo::seatpomelo_spread` meets its contract. Assumes nothing.
use mathlib.Core.Path.{ap, ◌∙◌}
use Rattle.spread.specs.Spread.{Outcome, number_of}
use Rattle.seatpomelo.proofs.Settling.{spread_status}
use Rattle.seatpomelo.proofs.seatpomelo_spread.Goals as goal

pub returns : goal.returns
returns c =
    let e = c.spread.ensures in
    record {
      value = rw c.status.ensures (spread_status c.spread.result ∙ ap (λ (o : Outcome). number_of o.verdict) e);
      out_after = ap (λ (o : Outcome). o.buffer) e;
    }
