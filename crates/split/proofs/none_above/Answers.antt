-- `split::none_above` meets its contract. Assumes nothing.
use Rattle.std.proofs.Common.{rules, leb, ◌≡◌, true, false}
use Rattle.std.proofs.lemmas.Iterator.{YieldsList-from_slice, cases_from_all}
use borrow.Author.Tests.{tests}
use Rattle.numbers.proofs.Chains.{every_from_all}
use Rattle.proration.specs.Proration.{LARGEST_WEIGHT}
use Rattle.split.proofs.none_above.Goals as goal

pub returns : goal.returns
returns c =
    let ws = c.args.ws.now in
    every_from_all (λ w. leb w LARGEST_WEIGHT) ws _
    (cases_from_all _ _ _ (λ w. leb w LARGEST_WEIGHT ≡ true) (λ w. leb w LARGEST_WEIGHT ≡ false) c.all.ensures.ran (YieldsList-from_slice ws cc)
    (λ x q k. search (rules, tests)) (λ x q k. search (rules, tests)))
