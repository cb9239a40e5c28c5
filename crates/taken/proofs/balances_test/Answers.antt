-- `taken::balances_test` meets its contract: sizes first, then the column. Assumes nothing.
use borrow.Author.Rules.{rules}
use Rattle.taken.proofs.balances_test.Goals as goal

pub add_balances-requires : goal.add_balances-requires
add_balances-requires c =
    let p = c.requires in
    (p.0, p.1, c.all_sized.ensures.yes (search rules))
