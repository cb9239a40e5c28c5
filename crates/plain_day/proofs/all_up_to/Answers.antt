-- `plain_day::all_up_to` meets its contract. Assumes nothing.
use Rattle.std.proofs.Common.{rules, ◌≡◌, true, false}
use Rattle.std.proofs.lemmas.Iterator.{YieldsList-from_slice, cases_from_all}
use borrow.Author.Tests.{tests}
use Rattle.numbers.proofs.Chains.{every_from_all}
use Rattle.plain_day.specs.Layout.{up_to}
use Rattle.plain_day.proofs.all_up_to.Goals as goal

pub returns : goal.returns
returns c =
    let xs = c.args.xs.now in
    every_from_all (up_to c.args.most) xs _
    (cases_from_all _ _ _ (λ x. up_to c.args.most x ≡ true) (λ x. up_to c.args.most x ≡ false) c.all.ensures.ran (YieldsList-from_slice xs cc)
    (λ x q k. search (rules, tests)) (λ x q k. search (rules, tests)))
