-- `taken::allotted_test` meets its contract: each test decides one fact. Assumes nothing.
use borrow.Author.Rules.{rules}
use Rattle.state.proofs.Lows.{offtake_within}
use Rattle.taken.proofs.Parts.{column_at, allotted_found}
use Rattle.taken.proofs.allotted_test.Goals as goal

pub balances_test-requires : goal.balances_test-requires
balances_test-requires c =
    let a = c.args in
    let m = c.args.amounts.now in
    let o = c.in_ok-offtakes_test.ensures in
    let e = o.1.wholes in (
      c.requires,
      λ s l. rw (column_at m.consumption.now m.losses.now m.balance.now m.revision.now a.n a.wholes.now _ e s l) (offtake_within m.consumption.now m.losses.now s (o.0.low s l)),
    )

pub returns : goal.returns
returns c =
    let a = c.args in
    let m = c.args.amounts.now in
    let o = c.in_ok-offtakes_test.ensures in
    allotted_found m.consumption.now m.losses.now m.balance.now m.revision.now a.n a.wholes.now _ o.1.wholes _ _
    (λ s w. record {
      users = c.if-n-eq0.false;
      measured = search rules;
      past = c.none_past.ensures.yes (search rules);
      offtakes = o.0;
      sizes = s;
      wholes = w;
    })
    (λ p. (p.sizes, p.wholes))
    c.balances_test.ensures
