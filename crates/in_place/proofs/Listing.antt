-- The inventory of plain numbers, by what the inventory of the point-day is. Assumes nothing.
use mathlib.Core.Path.{◌≡◌, refl, subst}
use mathlib.Core.Bool.{Bool, true, false}
use mathlib.Core.List.{List}
use Prim.Native.Nat.{ℕ}
use lib.IntN.{ℤ}
use Rattle.numbers.specs.Sums.{pick}
use Rattle.numbers.specs.Lists.{both}
use Rattle.point_day.specs.Struct.{read, taken}
use Rattle.inventory.specs.Inventory.{Answer, refused, inventory, Afterwards}
use Rattle.inventory.specs.Listed.{Ends}
use Rattle.plain_day.specs.Layout.{is_readable, day_in}
use Rattle.plain_day.specs.Lines.{is_taken}
use Rattle.in_place.specs.Listing.{plain_inventory}

-- answer and buffer
abbrev Gives : List ℤ → List ℤ → Answer → Answer → List ℤ → Type 0
Gives xs out r a after = (r ≡ a) × Afterwards a (read (day_in xs)) out after

module _ (xs out : List ℤ) where
  as_plain : (a : Answer) → a ≡ plain_inventory xs out → (r : Answer) (after : List ℤ) → Gives xs out r a after → Gives xs out r (plain_inventory xs out) after
  as_plain a e r after g = subst (λ x. Gives xs out r x after) e g

  pub no_day : is_taken xs ≡ false → Gives xs out (refused 2) (plain_inventory xs out) out
  no_day e = as_plain (refused 2) (unfold plain_inventory inventory in go (is_readable xs) e) (refused 2) out (refl, refl)
    where
      go : (b : Bool) → both b (taken (day_in xs)) ≡ false → refused 2 ≡ pick b (inventory (day_in xs) out) (refused 2)
      go true t = unfold inventory in rw t
      go false t = refl

  pub lists : is_readable xs ≡ true → (a : Answer) (after : List ℤ) → Ends (day_in xs) out a after → Gives xs out a (plain_inventory xs out) after
  lists e a after g = as_plain (inventory (day_in xs) out) (unfold plain_inventory in rw e) a after g
