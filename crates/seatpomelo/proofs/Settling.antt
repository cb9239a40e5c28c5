-- A status and a value, and the answer that they stand for. Assumes nothing.
use mathlib.Core.Path.{◌≡◌, refl}
use mathlib.Core.List.{List, [], ◌∷◌}
use Prim.Native.Nat.{ℕ}
use lib.IntN.{ℤ, pos}
use Rattle.std.specs.Prelude.{Result, Ok, Err}
use Rattle.numbers.specs.Refusals.{status_of}
use Rattle.numbers.specs.declared.Refusal.{Refusal}
use Rattle.calendar.specs.Answers.{answer_of}
use Rattle.degree_days.specs.Degrees as degrees
use Rattle.inventory.specs.Inventory as inventory
use Rattle.spread.specs.Spread as spread
use Rattle.plain_day.specs.Plain.{plain, answered}
use Rattle.in_place.specs.Listing as listing
use Rattle.in_place.specs.Values.{amount}
use Rattle.seatpomelo.specs.Settled.{settled, settles, value_or, number, size}

pub number_settled : (r : Result ℕ Refusal) (before : ℕ) → settled (status_of r) (value_or r before ∷ []) ≡ settles number (answer_of r) (before ∷ [])
number_settled (Ok n) before = refl
number_settled (Err e) before = refl

pub size_settled : (r : Result ℕ Refusal) (before : ℕ) → settled (status_of r) (value_or r before ∷ []) ≡ settles size (degrees.answer_of r) (before ∷ [])
size_settled (Ok n) before = refl
size_settled (Err e) before = refl

-- of a call on a point-day in plain numbers
pub amount_settled : (r : Result ℕ Refusal) (before : ℕ) (xs : List ℤ) → plain (status_of r) (pos (value_or r before) ∷ []) xs ≡ answered amount r (pos before ∷ []) xs
amount_settled (Ok n) before xs = refl
amount_settled (Err e) before xs = refl

-- of an inventory
pub listed_status : (r : Result ℕ Refusal) → status_of r ≡ listing.status (inventory.answer_of r)
listed_status (Ok n) = refl
listed_status (Err e) = refl

pub listed_count : (r : Result ℕ Refusal) (before : ℕ) → value_or r before ≡ listing.row_count (inventory.answer_of r) before
listed_count (Ok n) before = refl
listed_count (Err e) before = refl

-- of a reading's spread
pub spread_status : {A : Type 0} (r : Result A Refusal) → status_of r ≡ spread.number_of (spread.answer_of r)
spread_status (Ok x) = refl
spread_status (Err e) = refl
