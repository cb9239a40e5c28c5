-- Numbers in range, and numbers that a point-day is read from. Assumes nothing.
use mathlib.Core.Path.{◌≡◌}
use mathlib.Core.Bool.{Bool, true, not}
use mathlib.Core.List.{List}
use Prim.Native.Nat.{ℕ, ◌+◌, ◌≤◌}
use native.Mathlib.Omega.{arith}
use lib.Dec.{leb, eqb}
use lib.IntN.{ℤ, nat_abs}
use lib.ListN.{length, drop, length-drop}
use lib.Seq.{length-take-le}
use borrow.Author.Tests.{leb-true, eqb-true}
use Rattle.numbers.specs.Sums.{atZ}
use Rattle.numbers.specs.Lists.{both, every}
use Rattle.numbers.specs.Amounts.{is_negative}
use Rattle.numbers.proofs.Lists.{both_fst, both_snd}
use Rattle.point_day.specs.Limits.{USERS, LAST_NUMBER}
use Rattle.plain_day.specs.Layout.{LENGTH, USERS_AT, part, up_to, head_readable, is_readable}

pub up_to_le : (m : ℕ) (z : ℤ) → up_to m z ≡ true → nat_abs z ≤ m
unfolding up_to
up_to_le m z e = leb-true (nat_abs z) m (both_snd (not (is_negative z)) (leb (nat_abs z) m) e)

-- ---- numbers that a point-day is read from

module _ (xs : List ℤ) (e : is_readable xs ≡ true) where
  abbrev rest : Bool
  rest = both (head_readable (atZ xs 0) (atZ xs 1) (atZ xs 2) (atZ xs 3) (atZ xs 4) (atZ xs 5)) (every (up_to LAST_NUMBER) (part USERS_AT USERS xs))

  pub laid_length : length xs ≡ LENGTH
  unfolding is_readable
  laid_length = eqb-true (length xs) LENGTH (both_fst (eqb (length xs) LENGTH) rest e)

  pub laid_users : every (up_to LAST_NUMBER) (part USERS_AT USERS xs) ≡ true
  unfolding is_readable
  laid_users =
      both_snd (head_readable (atZ xs 0) (atZ xs 1) (atZ xs 2) (atZ xs 3) (atZ xs 4) (atZ xs 5)) (every (up_to LAST_NUMBER) (part USERS_AT USERS xs)) (both_snd (eqb (length xs) LENGTH) rest e)

  -- a part of them
  pub part_length : (from n : ℕ) → from + n ≤ LENGTH → length (part from n xs) ≡ n
  part_length from n l = length-take-le n (drop from xs) (omega (arith, length-drop from xs, laid_length))
