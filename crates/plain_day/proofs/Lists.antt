-- Tables of lists, and three tests. Assumes nothing.
use mathlib.Core.Path.{◌≡◌, refl, sym, ap, ◌∙◌}
use mathlib.Core.Bool.{Bool, true, false}
use mathlib.Core.List.{List, map}
use lib.ListN.{length, get_or}
use Rattle.numbers.specs.Sums.{table}
use Rattle.numbers.specs.Lists.{both}
use Rattle.point_day.proofs.Back.{map_table}
use Rattle.numbers.proofs.Sums.{table_all}

-- f of each element, place by place
pub table_map : {A B : Type 0} (f : A → B) (x : A) (xs : List A) → table (λ i. f (get_or xs i x)) (length xs) ≡ map f xs
table_map f x xs =
    sym (map_table f (λ i. get_or xs i x) (length xs)) ∙ ap (map f) (table_all x xs)

-- three tests, two at a time
pub both_both : (p q r : Bool) → both p (both q r) ≡ both (both p q) r
both_both true q r = refl
both_both false q r = refl
