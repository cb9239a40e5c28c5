-- `temperature::are_all_degrees` meets its contract. Assumes nothing.
use Rattle.std.proofs.Common.{rules, ◌≡◌, true, false}
use Rattle.std.proofs.lemmas.Iterator.{YieldsList-from_slice, cases_from_all}
use Rattle.numbers.proofs.Chains.{every_from_all}
use Rattle.temperature.specs.Temperature.{is_degrees}
use Rattle.temperature.proofs.are_all_degrees.Goals as goal

pub returns : goal.returns
returns c =
    let days = c.args.days.now in
    every_from_all is_degrees days _
    (cases_from_all _ _ _ (λ g. is_degrees g ≡ true) (λ g. is_degrees g ≡ false) c.all.ensures.ran (YieldsList-from_slice days cc)
    (λ x q k. search rules) (λ x q k. search rules))
