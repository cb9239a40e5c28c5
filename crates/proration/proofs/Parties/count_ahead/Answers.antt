-- `proration::Parties::count_ahead` meets its contract. Assumes nothing.
use Rattle.numbers.proofs.Sums.{sum_none, sum_more, bit_one}
use Rattle.numbers.proofs.Chains.{bit_of, bit_from}
use Rattle.proration.proofs.Shares.{before_le}
use mathlib.Core.Path.{◌≡◌, sym, ap₂, ◌∙◌}
use Prim.Native.Nat.{◌+◌}
use lib.ListN.{length}
use Rattle.proration.specs.Proration.{ahead, before}
use native.Mathlib.Omega.{arith}
use Rattle.proration.proofs.Parties.count_ahead.Goals as goal

pub loop-j-init : goal.loop-j-init
unfolding before
loop-j-init c = sum_none _

pub overflow_add-count : goal.overflow_add-count
overflow_add-count c =
    let s = c.args in
    omega (arith, before_le s.self.now.rems.now s.self.now.keys.now c.loop-j.j s.party.rem s.party.key, c.from-count.ensures, bit_of c.goes_before.result, bit_one c.goes_before.result)

pub loop-j-preserved : goal.loop-j-preserved
unfolding before
loop-j-preserved c =
    ap₂ ◌+◌ c.loop-j.invariant (bit_from c.from-count.ensures (c.goes_before.ensures ∙ ap₂ (λ r k. ahead r k c.args.party.rem c.args.party.key) c.at.ensures.0 c.at.ensures.1)) ∙ sym (sum_more _ c.loop-j.j)

pub returns : goal.returns
returns c =
    let e : c.loop-j.j ≡ length c.args.self.now.rems.now = omega arith in
    rw (← e) c.loop-j.invariant
