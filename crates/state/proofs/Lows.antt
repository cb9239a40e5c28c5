-- A user's consumption and losses, tested by their bits. Assumes nothing.
use mathlib.Core.Path.{refl}
use mathlib.Core.List.{List}
use Prim.Native.Nat.{ℕ, ◌+◌, ◌*◌, ◌≤◌, ◌<◌}
use native.Mathlib.Omega.{arith}
use lib.Bits.{bit_or}
use lib.IntN.{ℤ, pos, ◌+ℤ◌}
use mir.Syntax.{w64}
use mir.Val.{of_z, SFits}
use Rattle.numbers.specs.Sums.{sumZ, atZ}
use Rattle.numbers.specs.Amounts.{Within, Between}
use Rattle.numbers.proofs.Lists.{passed}
use Rattle.numbers.proofs.Amounts.{widen, within_add, within_first}
use Rattle.numbers.proofs.Bits.{Gathered, gather, amount_bits}
use Rattle.point_day.specs.Limits.{KINDS}
use Rattle.state.specs.Places.{ROOM, LOW, LowSlot, SizedSlot, offtake_at, balance_at}
use Rattle.state.proofs.Cells.{low_size}

-- the kinds of slot s from 0 up to n
abbrev pub LowKinds : List ℤ → List ℤ → ℕ → ℕ → Type 0
LowKinds cs ls s n = (k : ℕ) → 0 ≤ k → k < n → Between (pos 0) (pos LOW) (atZ cs (KINDS * s + k)) × Between (pos 0) (pos LOW) (atZ ls (KINDS * s + k))

-- one kind more
pub gather_kind : (cs ls : List ℤ) (s n bits : ℕ) → SFits w64 (atZ cs (KINDS * s + n)) → SFits w64 (atZ ls (KINDS * s + n)) → Gathered 33 bits (LowKinds cs ls s n)
    → Gathered 33 (bit_or (bit_or bits (of_z w64 (atZ cs (KINDS * s + n)))) (of_z w64 (atZ ls (KINDS * s + n)))) (LowKinds cs ls s (n + 1))
gather_kind cs ls s n bits f g h =
    let c = atZ cs (KINDS * s + n) in
    let l = atZ ls (KINDS * s + n) in
    let one : Gathered 33 (bit_or bits (of_z w64 c)) (LowKinds cs ls s n × Between (pos 0) (pos LOW) c) = gather (of_z w64 c) h (amount_bits 33 LOW refl (omega arith) c f) (λ p q. (p, q)) (λ r. r) in
    gather (of_z w64 l) one (amount_bits 33 LOW refl (omega arith) l g)
    (λ p q. passed (λ k. Between (pos 0) (pos LOW) (atZ cs (KINDS * s + k)) × Between (pos 0) (pos LOW) (atZ ls (KINDS * s + k))) 0 n p.0 (p.1, q))
    (λ r. ((λ k a b. r k a (omega arith), (r n (omega arith) (omega arith)).0), (r n (omega arith) (omega arith)).1))

-- amounts of a low slot are small, and their sum is
module _ (cs ls : List ℤ) (s : ℕ) (h : LowSlot cs ls s) where
  pub low_consumption : (k : ℕ) → k < KINDS → Within ROOM (atZ cs (KINDS * s + k))
  low_consumption k l = record { size = omega (arith, low_size LOW (atZ cs (KINDS * s + k)) (h k (omega arith) l).0) }

  pub low_losses : (k : ℕ) → k < KINDS → Within ROOM (atZ ls (KINDS * s + k))
  low_losses k l = record { size = omega (arith, low_size LOW (atZ ls (KINDS * s + k)) (h k (omega arith) l).1) }

  pub kind_within : (k : ℕ) → k < KINDS → Within (2 * ROOM) (atZ cs (KINDS * s + k) +ℤ atZ ls (KINDS * s + k))
  kind_within k l = widen (within_add (low_consumption k l) (low_losses k l)) (omega arith)

  pub offtake_within : Within (10 * ROOM) (offtake_at cs ls s)
  offtake_within = widen (within_first (2 * ROOM) (λ k. atZ cs (KINDS * s + k) +ℤ atZ ls (KINDS * s + k)) KINDS kind_within) (omega arith)

-- balances and revision of a sized slot are small, and their sum is
module _ (bs rs : List ℤ) (s : ℕ) (h : SizedSlot bs rs s) where
  pub balance_within : (k : ℕ) → k < KINDS → Within ROOM (atZ bs (KINDS * s + k))
  balance_within k l = record { size = omega (arith, h.balance k (omega arith) l) }

  pub revision_within : Within ROOM (atZ rs s)
  revision_within = record { size = omega (arith, h.revision) }

  pub balances_within : Within (5 * ROOM) (sumZ (λ k. atZ bs (KINDS * s + k)) KINDS)
  balances_within = within_first ROOM (λ k. atZ bs (KINDS * s + k)) KINDS balance_within

  pub user_balance_within : Within (6 * ROOM) (balance_at bs rs s)
  user_balance_within = widen (within_add balances_within revision_within) (omega arith)
