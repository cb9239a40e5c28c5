-- Balances and revisions of the first users, in their lists and user by user. Assumes nothing.
use mathlib.Core.Path.{◌≡◌, subst}
use mathlib.Core.Bool.{true}
use mathlib.Core.List.{List}
use Prim.Native.Nat.{ℕ, ◌+◌, ◌*◌, ◌/◌, ◌%◌, ◌≤◌, ◌<◌}
use native.Mathlib.Omega.{arith}
use lib.IntN.{ℤ, pos, nat_abs}
use lib.ListN.{length, take}
use borrow.Author.Tests.{le-leb, leb-true}
use Rattle.numbers.specs.Sums.{atZ}
use Rattle.numbers.specs.Lists.{every}
use Rattle.numbers.proofs.Places.{every_until, until_every}
use Rattle.point_day.specs.Limits.{KINDS, AMOUNT}
use Rattle.point_day.specs.Day.{no_more}
use Rattle.state.specs.Places.{SizedSlot}

module _ (n : ℕ) (bs rs : List ℤ) (b : KINDS * n ≤ length bs) (r : n ≤ length rs) where
  pub all_sized : every (no_more AMOUNT) (take (KINDS * n) bs) ≡ true → every (no_more AMOUNT) (take n rs) ≡ true → (s : ℕ) → s < n → SizedSlot bs rs s
  all_sized e f s l = record {
    balance = λ k m t. leb-true _ _ (every_until (no_more AMOUNT) (pos 0) (KINDS * n) bs b e (KINDS * s + k) (omega arith));
    revision = leb-true _ _ (every_until (no_more AMOUNT) (pos 0) n rs r f s l);
  }

  pub balances_limited : ((s : ℕ) → s < n → SizedSlot bs rs s) → every (no_more AMOUNT) (take (KINDS * n) bs) ≡ true
  balances_limited h =
      until_every (no_more AMOUNT) (pos 0) (KINDS * n) bs b
      (λ i l. le-leb _ _ (subst (λ j. nat_abs (atZ bs j) ≤ AMOUNT) (omega arith) ((h (i / KINDS) (omega arith)).balance (i % KINDS) (omega arith) (omega arith))))

  pub revisions_limited : ((s : ℕ) → s < n → SizedSlot bs rs s) → every (no_more AMOUNT) (take n rs) ≡ true
  revisions_limited h = until_every (no_more AMOUNT) (pos 0) n rs r (λ i l. le-leb _ _ (h i l).revision)
