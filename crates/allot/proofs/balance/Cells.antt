-- The cells of a balance in the buffer. Assumes nothing.
use mathlib.Core.Path.{◌≡◌, sym, ap, ap₂, ◌∙◌}
use mathlib.Core.Bool.{Bool}
use mathlib.Core.List.{List, [], ◌++◌, append-nil}
use Prim.Native.Nat.{ℕ, zero, suc, ◌-◌, ◌*◌, ◌≤◌, ◌<◌}
use native.Mathlib.Omega.{arith}
use lib.IntN.{ℤ, pos}
use lib.ListN.{length, take, drop, replicate, drop_of_length-le, length-replicate}
use Rattle.std.proofs.lemmas.List.{take_all}
use lib.Seq.{length-take-le}
use Rattle.numbers.specs.Sums.{atZ}
use Rattle.proration.specs.Proration.{prorateZ}
use Rattle.proration.proofs.Signs.{lengthZ}
use Rattle.point_day.specs.Limits.{USERS, CELLS, KINDS}
use Rattle.point_day.specs.Calls.{by_basis, or_kind_1, kinds, with_share}
use Rattle.point_day.specs.Struct.{padded}
use Rattle.point_day.proofs.Wholes.{length_weights}
use Rattle.allot.specs.UserWeights.{CellsInRange, consumption_and_losses, by_all_kinds, basis_weights}
use Rattle.allot.proofs.weights.Weighing.{cells_full}
use Rattle.allot.specs.Shared.{shares_of}
use Rattle.allot.specs.Slots.{balances_of, all_balances}
use Rattle.allot.proofs.balance.Parts.{flat_long}

-- zeros are the cells of nobody
pub none_padded : {xs : List ℤ} → xs ≡ replicate CELLS (pos 0) → xs ≡ padded CELLS (pos 0) []
unfolding padded
none_padded e = e

pub none_long : {xs : List ℤ} → xs ≡ padded CELLS (pos 0) [] → length xs ≡ CELLS
unfolding padded
none_long e = ap length e ∙ length-replicate CELLS (pos 0)

module _ (cs ls : List ℤ) (s : ℕ) (c : length cs ≡ CELLS) (l : length ls ≡ CELLS) (m : s < USERS) where
  -- a share over the kinds is five cells
  pub share_long : (all : Bool) (z : ℤ) → length (with_share all (consumption_and_losses cs ls s) z).balance ≡ KINDS
  share_long all z = lengthZ z (or_kind_1 (by_basis all (consumption_and_losses cs ls s))) kinds ∙ length_weights all (consumption_and_losses cs ls s) (cells_full cs ls s c l m)

drop_replicate : {A : Type 0} (x : A) (n m : ℕ) → drop n (replicate m x) ≡ replicate (m - n) x
drop_replicate x zero m = let e : m ≡ m - 0 = omega arith in ap (λ k. replicate k x) e
drop_replicate x (suc n) zero = let e : 0 ≡ 0 - suc n = omega arith in ap (λ k. replicate k x) e
drop_replicate x (suc n) (suc m) = let e : m - n ≡ suc m - suc n = omega arith in drop_replicate x n m ∙ ap (λ k. replicate k x) e

padded_from : {A : Type 0} (N n : ℕ) (x : A) (xs : List A) → length xs ≡ n → xs ++ drop n (padded N x []) ≡ padded N x xs
unfolding padded
padded_from N n x xs e =
    let z : N - 0 ≡ N = omega arith in
    ap (λ t. xs ++ t) (ap (λ k. drop n (replicate k x)) z ∙ drop_replicate x n N ∙ ap (λ k. replicate (N - k) x) (sym e))

module _ (z : ℤ) (cs ls : List ℤ) (users : List ℕ) (n : ℕ) where
  -- the shares, in a column as long as the users
  pub shares_fill : {y : ℤ} → y ≡ z → {m : ℕ} → m ≡ n → (o₀ : List ℤ) → length o₀ ≡ n → {o : List ℤ} → o ≡ shares_of y cs ls users m ++ drop m o₀ → o ≡ shares_of z cs ls users n
  shares_fill e q o₀ long p =
      p
      ∙ ap₂ (λ y m. shares_of y cs ls users m ++ drop m o₀) e q
      ∙ ap (λ t. shares_of z cs ls users n ++ t) (drop_of_length-le o₀ {i = n} (omega arith))
      ∙ append-nil _

  -- the cells of the first n users, handed in as a list of their own
  pub first_cells : n ≤ length users → (d₀ : List ℤ)
      → all_balances z cs ls (take n users) (length (take n users)) ++ drop (KINDS * length (take n users)) d₀ ≡ all_balances z cs ls users n ++ drop (KINDS * n) d₀
  first_cells l d₀ =
      ap (λ k. all_balances z cs ls (take n users) k ++ drop (KINDS * k) d₀) (length-take-le n users l)
      ∙ ap (λ us. balances_of (by_all_kinds cs ls n) cs ls (prorateZ z (basis_weights cs ls n) us) n ++ drop (KINDS * n) d₀) (take_all n (take n users) (omega (arith, length-take-le n users l)))

module _ (z : ℤ) (cs ls : List ℤ) (users : List ℕ) (n : ℕ) (h : CellsInRange cs ls) (l : n ≤ USERS) where
  balances_long : length (all_balances z cs ls users n) ≡ KINDS * n
  balances_long =
      flat_long _ n
      (λ s k. share_long cs ls s h.consumption.long h.losses.long (omega arith) (by_all_kinds cs ls n) (atZ (shares_of z cs ls users n) s))
      n (omega arith)

  -- what is left in a cleared buffer of cells
  pub cells_padded : {d d₀ : List ℤ} → d₀ ≡ padded CELLS (pos 0) [] → d ≡ all_balances z cs ls users n ++ drop (KINDS * n) d₀
      → d ≡ padded CELLS (pos 0) (all_balances z cs ls users n)
  cells_padded e q =
      q
      ∙ ap (λ t. all_balances z cs ls users n ++ drop (KINDS * n) t) e
      ∙ padded_from CELLS (KINDS * n) (pos 0) (all_balances z cs ls users n) balances_long
