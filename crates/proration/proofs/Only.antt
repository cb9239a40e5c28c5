-- Proration splits by largest remainder, and no other list does. Assumes nothing.
use mathlib.Core.Path.{◌≡◌, sym, ap, ◌∙◌}
use mathlib.Core.Bool.{Bool, true, false}
use mathlib.Core.List.{List}
use mathlib.Core.Logic.{⊎_elim, ◌⊎◌, inl, inr}
use Prim.Native.Nat.{ℕ, ◌+◌, ◌≤◌, ◌<◌}
use native.Mathlib.Omega.{arith}
use lib.Dec.{ltb}
use lib.IntN.{ℤ, pos, nat_abs}
use lib.ListN.{length}
use lib.Seq.{ext_get_or}
use borrow.Author.Tests.{lt-ltb, le-ltb}
use Rattle.numbers.specs.Sums.{bit, sum, sumZ, at, atZ, total}
use Rattle.numbers.specs.Lists.{Distinct}
use Rattle.numbers.specs.Amounts.{is_negative, signed}
use Rattle.numbers.proofs.Sums.{lt_or_ge, sum_le, sum_lt, sumZ_eq, totalZ_sum, bit_le, at_table}
use Rattle.proration.specs.Proration.{before, rank, left, share, split, counted, prorate, prorateZ}
use Rattle.proration.specs.Laws.{floor_of, rem_of, Precedes, GetsUnit, LargestRemainder}
use Rattle.proration.proofs.Order.{is_ahead, go_ahead, trans, three, tot}
use Rattle.proration.proofs.Prorated.{length_counted}
use Rattle.proration.proofs.Signs.{lengthZ, shareZ, totalZ_is, sign_sum, sign_size}

-- the size of the i-th share
abbrev size : List ℤ → ℕ → ℕ
size ss i = nat_abs (atZ ss i)

-- ---- proration splits by largest remainder

module _ (z : ℤ) (ws ks : List ℕ) where
  -- the parties served before party i, and the units left over
  abbrev served : ℕ → ℕ
  served = rank (rem_of z ws) (at ks) (length (counted ws))

  abbrev over : ℕ
  over = left (nat_abs z) (total (counted ws)) (at (counted ws)) (length (counted ws))

  size_is : (i : ℕ) → i < length ws → size (prorateZ z ws ks) i ≡ at (prorate (nat_abs z) ws ks) i
  size_is i l = ap nat_abs (shareZ z ws ks i l) ∙ sign_size (is_negative z) (at (prorate (nat_abs z) ws ks) i)

  share_is : (i : ℕ) → i < length ws → size (prorateZ z ws ks) i ≡ floor_of z ws i + bit (ltb (served i) over)
  unfolding prorate split share
  share_is i l =
      size_is i l
      ∙ at_table (share (nat_abs z) (total (counted ws)) (at (counted ws)) (at ks) (length (counted ws))) (length (counted ws)) i (omega (arith, length_counted ws))

  floor_or_unit : (i : ℕ) (p : Bool) → size (prorateZ z ws ks) i ≡ floor_of z ws i + bit p
      → (size (prorateZ z ws ks) i ≡ floor_of z ws i) ⊎ GetsUnit z ws (prorateZ z ws ks) i
  floor_or_unit i true e = inr e
  floor_or_unit i false e = inl (omega arith)

  module _ (i j : ℕ) (p : Precedes z ws ks i j) where
    -- whoever is served before party i is served before party j
    served_le : served i ≤ served j
    unfolding before
    served_le =
        let r = rem_of z ws in
        let k = at ks in
        let a = go_ahead (r i) (k i) (r j) (k j) (⊎_elim (λ h. inl h) (λ e. inr (e.0, omega arith)) p) in
        sum_le _ _ (length (counted ws)) (λ h _. bit_le _ _ (λ e. trans (r h) (k h) (r i) (k i) (r j) (k j) e a))

    first_unit : i < length ws → j < length ws → GetsUnit z ws (prorateZ z ws ks) j → GetsUnit z ws (prorateZ z ws ks) i
    first_unit l m e =
        ⊎_elim (λ h. omega (arith, share_is i l, ap bit (lt-ltb (served i) over h)))
        (λ h. omega (arith, share_is j m, ap bit (le-ltb (served j) over (omega (arith, served_le)))))
        (lt_or_ge (served i) over)

  pub ours : 0 < length ws → Distinct ks → length ws ≤ length ks → LargestRemainder z ws ks (prorateZ z ws ks)
  ours some d long = record {
    parties = lengthZ z ws ks;
    adds_up = totalZ_is z ws ks some d long;
    sign = λ i l. shareZ z ws ks i l ∙ ap (signed (is_negative z)) (sym (size_is i l));
    units = λ i l. floor_or_unit i (ltb (served i) over) (share_is i l);
    in_order = λ i j l m p. first_unit i j p l m;
  }

  -- ---- and no other list does

  module _ {ss : List ℤ} (s : LargestRemainder z ws ks ss) where
    -- the sizes add up to the amount's size
    sizes : sum (size ss) (length ws) ≡ nat_abs z
    sizes =
        sym (sign_size (is_negative z) (sum (size ss) (length ws)))
        ∙ ap nat_abs
        (sym (sign_sum (is_negative z) (size ss) (length ws))
        ∙ sym (sumZ_eq (atZ ss) _ (length ws) s.sign)
        ∙ ap (sumZ (atZ ss)) (sym s.parties)
        ∙ sym (totalZ_sum ss)
        ∙ s.adds_up)

    between : (i : ℕ) → i < length ws → (floor_of z ws i ≤ size ss i) × (size ss i ≤ floor_of z ws i + 1)
    between i l = ⊎_elim (λ e. (omega arith, omega arith)) (λ e. (omega arith, omega arith)) (s.units i l)

  -- the larger of two such shares has the unit
  larger : {ss ts : List ℤ} → LargestRemainder z ws ks ss → LargestRemainder z ws ks ts → (i : ℕ) → i < length ws → size ts i < size ss i → GetsUnit z ws ss i
  larger s t i l h = omega (arith, between s i l, between t i l)

  -- of two parties whose keys differ one precedes
  in_turn : (i j : ℕ) → (at ks i ≡ at ks j → ⊥) → Precedes z ws ks i j ⊎ Precedes z ws ks j i
  in_turn i j h =
      let r = rem_of z ws in
      let k = at ks in
      ⊎_elim (λ e. inl (is_ahead (r i) (k i) (r j) (k j) e)) (λ e. inr (is_ahead (r j) (k j) (r i) (k i) e)) (tot (r i) (k i) (r j) (k j) h)

  module _ (d : Distinct ks) (long : length ws ≤ length ks) where
    two : (i j : ℕ) → i < length ws → j < length ws → (i ≡ j) ⊎ (Precedes z ws ks i j ⊎ Precedes z ws ks j i)
    two i j l m =
        ⊎_elim (λ h. inr (in_turn i j (d i j h (omega arith))))
        (⊎_elim (λ e. inl e) (λ h. inr (in_turn i j (λ e. d j i h (omega arith) (sym e)))))
        (three i j)

    module _ {ss ts : List ℤ} (s : LargestRemainder z ws ks ss) (t : LargestRemainder z ws ks ts) (i : ℕ) (l : i < length ws) (h : size ss i < size ts i) where
      -- if one party gets more by the one split, none gets more by the other
      none_more : (j : ℕ) → j < length ws → size ts j < size ss j → ⊥
      none_more j m k =
          ⊎_elim (λ e. omega (arith, ap (size ss) e, ap (size ts) e))
          (⊎_elim (λ p. omega (arith, s.in_order i j l m p (larger s t j m k), between t i l)) (λ p. omega (arith, t.in_order j i m l p (larger t s i l h), between s j m)))
          (two i j l m)

      -- and so the two do not add up to the same amount
      apart : ⊥
      apart =
          omega (
            arith,
            sum_lt (size ss) (size ts) (length ws) (λ j m. ⊎_elim (λ k. absurd (none_more j m k)) (λ k. k) (lt_or_ge (size ts j) (size ss j))) i l h,
            sizes s,
            sizes t,
          )

    same : {ss ts : List ℤ} → LargestRemainder z ws ks ss → LargestRemainder z ws ks ts → ss ≡ ts
    same {ss} {ts} s t =
        ext_get_or (pos 0) ss ts (s.parties ∙ sym t.parties) (λ i l. equal i (omega arith))
      where
        equal_size : (i : ℕ) → i < length ws → size ss i ≡ size ts i
        equal_size i l =
            ⊎_elim (λ h. absurd (apart s t i l h)) (⊎_elim (λ e. e) (λ h. absurd (apart t s i l h))) (three (size ss i) (size ts i))

        equal : (i : ℕ) → i < length ws → atZ ss i ≡ atZ ts i
        equal i l = s.sign i l ∙ ap (signed (is_negative z)) (equal_size i l) ∙ sym (t.sign i l)

  pub only : 0 < length ws → Distinct ks → length ws ≤ length ks → (ss : List ℤ) → LargestRemainder z ws ks ss → ss ≡ prorateZ z ws ks
  only some d long ss s = same d long s (ours some d long)
