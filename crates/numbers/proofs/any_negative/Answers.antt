-- `numbers::any_negative` meets its contract. Assumes nothing.
use Rattle.std.proofs.Common.{rules, ◌≡◌, true, false, not, ℤ}
use Rattle.std.proofs.lemmas.Iterator.{YieldsList-from_slice, cases_from_any}
use borrow.Author.Tests.{tests}
use Rattle.numbers.specs.Amounts.{is_negative}
use Rattle.numbers.proofs.Amounts.{lt_zero}
use Rattle.numbers.proofs.Chains.{fails_from_any}
use Rattle.numbers.proofs.any_negative.Goals as goal

pub returns : goal.returns
returns c =
    let zs = c.args.xs.now in
    fails_from_any (λ (z : ℤ). not (is_negative z)) zs _
    (cases_from_any _ _ _ (λ z. not (is_negative z) ≡ false) (λ z. not (is_negative z) ≡ true) c.any.ensures.ran (YieldsList-from_slice zs cc)
    (λ x q k. search (rules, tests, lt_zero)) (λ x q k. search (rules, tests, lt_zero)))
