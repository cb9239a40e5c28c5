-- `plain_day::up_to` meets its contract. Assumes nothing.
use mathlib.Core.Path.{◌≡◌, refl, sym, ◌∙◌}
use mathlib.Core.Bool.{true, false}
use Prim.Native.Nat.{ℕ}
use native.Mathlib.Omega.{arith}
use lib.Dec.{leb}
use lib.IntN.{ℤ, pos, negsuc, nat_abs}
use lib.Signed.{le_z}
use mir.Facts.{to_z-of_z}
use borrow.Author.Tests.{le-leb}
use Rattle.numbers.proofs.Lists.{true≢false}
use Rattle.plain_day.specs.Layout.{up_to}
use Rattle.plain_day.proofs.up_to.Goals as goal

from_0 : (m : ℕ) (z : ℤ) → le_z (pos 0) z ≡ true → leb (nat_abs z) m ≡ up_to m z
unfolding up_to
from_0 m (pos n) e = refl
from_0 m (negsuc n) e = cc

below_0 : (m : ℕ) (z : ℤ) → le_z (pos 0) z ≡ false → le_z (pos 0) z ≡ up_to m z
unfolding up_to
below_0 m (pos n) e = true≢false (sym (le-leb 0 n (omega arith)) ∙ e)
below_0 m (negsuc n) e = refl

pub returns-then-x-ge0 : goal.returns-then-x-ge0
returns-then-x-ge0 c =
    let f = to_z-of_z c.ranges.x in
    rw (c.unsigned_abs.ensures.value, f) (from_0 c.args.most c.args.x (rw f at c.if-x-ge0.true))

pub returns-else-x-ge0 : goal.returns-else-x-ge0
returns-else-x-ge0 c =
    let f = to_z-of_z c.ranges.x in
    rw f (below_0 c.args.most c.args.x (rw f at c.if-x-ge0.false))
