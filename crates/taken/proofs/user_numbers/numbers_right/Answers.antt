-- `taken::user_numbers::numbers_right` meets its contract. Assumes nothing.
use Rattle.std.proofs.Common.{◌≡◌, true, false, sym, ◌∙◌}
use Rattle.numbers.specs.Lists.{has}
use Rattle.numbers.proofs.Chains.{any_is_has}
use Rattle.numbers.proofs.Lists.{distinct_map}
use Rattle.taken.proofs.user_numbers.numbers_right.Goals as goal

pub returns-then-not-contains : goal.returns-then-not-contains
returns-then-not-contains c =
    let us = c.args.users.now in
    let e : has 0 us ≡ false = sym (any_is_has 0 us) ∙ sym c.contains.ensures.value ∙ c.if-not-contains.true in
    rw e (c.are_distinct.ensures ∙ distinct_map us)

pub returns-else-not-contains : goal.returns-else-not-contains
returns-else-not-contains c =
    let us = c.args.users.now in
    let e : has 0 us ≡ true = sym (any_is_has 0 us) ∙ sym c.contains.ensures.value ∙ c.if-not-contains.false in
    rw (e, c.if-not-contains.false)
