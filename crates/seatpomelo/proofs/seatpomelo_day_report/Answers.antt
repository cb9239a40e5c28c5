-- `seatpomelo::seatpomelo_day_report` meets its contract. Assumes nothing.
use mathlib.Core.Path.{ap, ◌∙◌}
use mathlib.Core.List.{[], ◌∷◌}
use Rattle.seatpomelo.specs.Settled.{settles, number}
use Rattle.seatpomelo.proofs.Settling.{number_settled}
use Rattle.seatpomelo.proofs.seatpomelo_day_report.Goals as goal

pub returns : goal.returns
returns c =
    let e = c.settle_count.ensures in
    let r = c.write_report.ensures in
    record {
      written_after = rw (e.0, e.1) (number_settled c.write_report.result c.args.written.now ∙ ap (λ a. settles number a (c.args.written.now ∷ [])) r.result_value);
      out_after = r.out_after;
    }
