-- `join::taken_test` meets its contract, outcome by outcome, on any point-day of which this is the test. Assumes nothing.
use mathlib.Core.Path.{◌≡◌, refl, sym, ◌∙◌}
use mathlib.Core.Bool.{true, false}
use native.Mathlib.Omega.{arith}
use lib.ListN.{take}
use Rattle.numbers.specs.Lists.{has}
use Rattle.state.proofs.Numbers.{slot_found}
use Rattle.join.proofs.Joins.{join_1, join_2, join_4, join_5, join_done, fails, passes}
use Rattle.join.proofs.taken_test.Goals as goal

pub returns-then-state : goal.returns-then-state
returns-then-state c = (λ d k. fails _ d 0 (join_1 _ d k.sized k.is_taken (k.allotted ∙ c.if-state.true)))

pub returns-then-user-eq0 : goal.returns-then-user-eq0
returns-then-user-eq0 c = (λ d k. fails _ d 1 (join_2 _ d k.sized k.is_taken (k.allotted ∙ c.if-state.false) c.if-user-eq0.true))

pub returns-then-is_some : goal.returns-then-is_some
returns-then-is_some c =
    let n = c.args.user in
    (λ d k.
    let h : has n (take d.count d.users) ≡ true = rw (k.count, k.users) (sym (slot_found n _ _ c.slot_of.ensures) ∙ sym c.is_some.ensures ∙ c.if-is_some.true) in
    fails n d 3 (join_4 n d k.sized k.is_taken (k.allotted ∙ c.if-state.false) c.if-user-eq0.false (omega (arith, c.ranges.user.fits)) h))

pub returns-then-count-ge-USERS : goal.returns-then-count-ge-USERS
returns-then-count-ge-USERS c =
    let n = c.args.user in
    (λ d k.
    let h : has n (take d.count d.users) ≡ false = rw (k.count, k.users) (sym (slot_found n _ _ c.slot_of.ensures) ∙ sym c.is_some.ensures ∙ c.if-is_some.false) in
    fails n d 4 (join_5 n d k.sized k.is_taken (k.allotted ∙ c.if-state.false) c.if-user-eq0.false (omega (arith, c.ranges.user.fits)) h (rw k.count c.if-count-ge-USERS.true)))

pub returns : goal.returns
returns c =
    let n = c.args.user in
    (λ d k.
    let h : has n (take d.count d.users) ≡ false = rw (k.count, k.users) (sym (slot_found n _ _ c.slot_of.ensures) ∙ sym c.is_some.ensures ∙ c.if-is_some.false) in
    passes n d record {
      is = join_done n d k.sized k.is_taken (k.allotted ∙ c.if-state.false) c.if-user-eq0.false (omega (arith, c.ranges.user.fits)) h (rw k.count c.if-count-ge-USERS.false) refl;
      taken = k.is_taken;
      room = rw k.count c.if-count-ge-USERS.false;
    })
