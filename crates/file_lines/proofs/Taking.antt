-- A call on a taken point-day that is entering leaves a taken one. Assumes nothing.
use mathlib.Core.Path.{◌≡◌, sym, ap, ◌∙◌}
use mathlib.Core.Bool.{true, false}
use mathlib.Core.List.{List, [], ◌∷◌}
use Prim.Native.Nat.{ℕ, ◌≤◌}
use native.Mathlib.Omega.{arith}
use lib.Dec.{leb, eqb}
use lib.IntN.{ℤ, pos, nat_abs}
use borrow.Author.Tests.{eqb-true, eqb-false, le-leb}
use Rattle.numbers.specs.Lists.{every, has}
use Rattle.numbers.proofs.Lists.{All, all_map, all_map₂, all_every, every_all, either_fst, either_snd}
use Rattle.point_day.specs.Limits.{AMOUNT}
use Rattle.point_day.specs.Day.{User, numbers, no_more, is_zero}
use Rattle.point_day.specs.Struct.{Sized, Outcome, read, taken, outcome, called}
use Rattle.point_day.specs.declared.PointDay.{PointDay}
use Rattle.point_day.proofs.Taken.{taken_facts}
use Rattle.point_day.proofs.Arrays.{Full}
use Rattle.point_day.proofs.Back.{read_count, laid_read}
use Rattle.point_day.proofs.Sound.{Bare, taken_sound, sum_zeros}
use Rattle.point_day.proofs.Good.{Formed, Good, bare_good}
use Rattle.day_book.specs.Run.{Call, move}
use Rattle.day_book.proofs.Keeps as keeps

-- ---- the day of such a point-day is one that calls reach from fresh

named : (us : List User) → has 0 (numbers us) ≡ false → All (λ u. leb 1 u.number ≡ true) us
unfolding has
named [] e = tt
named (u ∷ us) e =
    (le-leb 1 u.number (above u.number (eqb-false 0 u.number (either_fst (eqb 0 u.number) _ e))), named us (either_snd (eqb 0 u.number) _ e))
  where
    above : (n : ℕ) → (0 ≡ n → ⊥) → 1 ≤ n
    above n h = omega arith

zero_small : (zs : List ℤ) → every is_zero zs ≡ true → every (no_more AMOUNT) zs ≡ true
zero_small zs e =
    every_all (no_more AMOUNT) zs
    (all_map (λ z. is_zero z ≡ true) _ (λ z h. le-leb (nat_abs z) AMOUNT (omega (arith, eqb-true (nat_abs z) 0 h))) zs (all_every is_zero zs e))

form : (u : User) → Full u → Bare u → leb 1 u.number ≡ true → Formed u
form u f b n = record {
  full = f;
  number = n;
  cells = zero_small u.balance b.balance;
  balance = rw (sum_zeros u.balance b.balance) (omega arith);
}

module _ (p : PointDay) (z : Sized p) (ok : taken p ≡ true) (e : p.allotted ≡ false) where
  pub entering_good : Good (read p) (pos 0)
  entering_good =
      let t = taken_facts p ok in
      let s = taken_sound p z t in
      let bare = s.entering (unfold read in e) in
      bare_good (read p) (pos 0) (unfold read in e) (omega (arith, read_count p z t, t.few)) t.apart s.measurement
      (all_map₂ (λ u. Full u × Bare u) (λ u. leb 1 u.number ≡ true) Formed (λ u h n. form u h.0 h.1 n) (read p).users
      (all_map₂ Full Bare (λ u. Full u × Bare u) (λ u f b. (f, b)) (read p).users s.full bare) (named (read p).users t.named))
      bare s.sum

  pub called_taken : (c : Call) → taken (called (move c) p).day ≡ true
  called_taken c =
      ap (λ d. taken (called (move c) d).day) (sym (laid_read p z (taken_facts p ok))) ∙ keeps.called_taken (read p) (pos 0) entering_good c

  -- the same of a call's outcome
  pub outcome_taken : (c : Call) {a : _} {q : PointDay} → outcome a q ≡ called (move c) p → taken q ≡ true
  outcome_taken c h = ap (λ (o : Outcome). taken o.day) h ∙ called_taken c
