-- `allot::balance::spread_balance` meets its contract. Assumes nothing.
use mathlib.Core.Path.{sym, ap, ap₂, ◌∙◌}
use lib.ListN.{length}
use lib.Seq.{take-length}
use Rattle.numbers.specs.Lists.{distinct}
use Rattle.numbers.proofs.Amounts.{back}
use Rattle.allot.specs.UserWeights.{weights}
use Rattle.allot.proofs.shares.Sharing.{shares_long, shares_within}
use Rattle.allot.proofs.balance.Cells.{shares_fill}
use native.Mathlib.Omega.{arith}
use Rattle.allot.proofs.balance.spread_balance.Goals as goal

pub spread_all-requires-clause-ws_value : goal.spread_all-requires-clause-ws_value
spread_all-requires-clause-ws_value c =
    let a = c.args in
    let cs = a.offtakes.now.consumption.now in
    let ls = a.offtakes.now.losses.now in
    let n = length a.users.now in
    let p = c.requires.within in
    let q = c.requires.users_nonzero in
    let o = c.share_by-kinds.ensures in
    let e = shares_fill a.balance cs ls a.users.now n (back p.0 (omega arith)) q.3 a.shares.now q.4 o.shares_after in
    let long = ap length e ∙ shares_long a.balance cs ls a.users.now n in (
      o.ws_after ∙ ap₂ (λ b k. weights b cs ls k) (sym o.value) (q.3 ∙ sym long),
      λ i. rw e (shares_within a.balance cs ls a.users.now n p.0 (ap distinct (take-length a.users.now) ∙ p.2) (omega arith) i),
    )
