-- User numbers: a search. Assumes nothing.
use mathlib.Core.Path.{◌≡◌, sym}
use mathlib.Core.List.{List}
use Prim.Native.Nat.{ℕ, ◌≤◌, ◌<◌}
use native.Mathlib.Omega.{arith}
use lib.ListN.{take, length-take}
use Rattle.std.specs.Prelude.{Option, None, Some, is_some, IfSome}
use Rattle.numbers.specs.Lists.{has}
use Rattle.numbers.proofs.Lists.{has_at}
use Rattle.state.specs.Places.{SlotOf}

-- whether the user stands among these
pub slot_found : (n : ℕ) (users : List ℕ) (r : Option ℕ) → SlotOf n users r → is_some r ≡ has n users
slot_found n users None h = sym h
slot_found n users (Some s) h = sym (has_at n users s h.0 h.1)

-- a slot of a user among the first `count`
pub slot_within : (n count m : ℕ) (users : List ℕ) (r : Option ℕ) → count ≤ m → SlotOf n (take count users) r → IfSome r (λ s. s < m)
slot_within n count m users None l h = tt
slot_within n count m users (Some s) l h = omega (arith, length-take count users, h.0)
