-- `telemetered::own_value::is_arrival` meets its contract: a length stands in the list if it is one of the three. Assumes nothing.
use mathlib.Core.Path.{◌≡◌, refl, sym, ◌∙◌}
use mathlib.Core.Bool.{true, false}
use mathlib.Core.List.{[], ◌∷◌}
use Rattle.numbers.specs.Lists.{has}
use Rattle.numbers.proofs.Chains.{any_is_has}
use Rattle.telemetered.proofs.own_value.is_arrival.Goals as goal

pub returns-then-contains : goal.returns-then-contains
returns-then-contains c =
    let n = c.in-Some.value.length in
    let of_three : has n (1380 ∷ 1440 ∷ 1500 ∷ []) ≡ true = sym (any_is_has n _) ∙ sym c.contains.ensures.value ∙ c.if-contains.true in
    rw (c.in-Some.is, of_three) refl

pub returns-else-contains : goal.returns-else-contains
returns-else-contains c =
    let n = c.in-Some.value.length in
    let of_three : has n (1380 ∷ 1440 ∷ 1500 ∷ []) ≡ false = sym (any_is_has n _) ∙ sym c.contains.ensures.value ∙ c.if-contains.false in
    rw (c.in-Some.is, c.if-contains.false, of_three) refl
