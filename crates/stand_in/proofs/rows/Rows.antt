-- The rows of a stand-in: parts of arrays as lists of pairs, the test of every row, and the nearest filled one. Assumes nothing.
use mathlib.Core.Path.{◌≡◌, refl, sym, ap, ap₂, ◌∙◌}
use mathlib.Core.Bool.{Bool, true, false}
use mathlib.Core.List.{List, [], ◌∷◌}
use Prim.Native.Nat.{ℕ, zero, suc, ◌+◌, ◌*◌, ◌≤◌, ◌<◌}
use native.Mathlib.Omega.{arith}
use lib.Dec.{eqb}
use lib.IntN.{ℤ, pos}
use lib.ListN.{length, get_or, take, drop, length-drop}
use lib.Seq.{get_or-drop}
use borrow.Author.Tests.{le-leb, lt-leb, eq-eqb, eqb-true}
use Rattle.numbers.specs.Sums.{table}
use Rattle.numbers.specs.Lists.{both, every, rising}
use Rattle.numbers.proofs.Sums.{length_table, getD_table, table_take}
use Rattle.numbers.proofs.Lists.{never, true≢false, both_fst, both_snd}
use Rattle.point_day.specs.Limits.{USERS, ROWS, AMOUNT}
use Rattle.point_day.specs.Day.{some, no_more, is_number}
use Rattle.point_day.specs.Calls.{Pair, users_of, amounts_of, row_right, nearest_filled, looked_at}
use Rattle.point_day.specs.Struct.{pair_at, row_at, rows_of}
use Rattle.point_day.specs.declared.StandInRows.{StandInRows}
use Rattle.point_day.proofs.Back.{map_table}
use Rattle.point_day.proofs.Each.{length_some}
use Rattle.columns.proofs.Padding.{table_by}
use Rattle.numbers.proofs.Places.{one_fails, at_every}
use Rattle.stand_in.specs.Rows.{rows, rows_readable, rows_in, Nearest}

-- ---- part of an array

part : {A : Type 0} (x : A) (xs : List A) (from n : ℕ) → from + n ≤ length xs → table (λ j. get_or xs (from + j) x) n ≡ take n (drop from xs)
part x xs from n l =
    table_by (λ j. get_or xs (from + j) x) (λ j. get_or (drop from xs) j x) n (λ j m. sym (get_or-drop from xs j x))
    ∙ table_take x (drop from xs) n (omega (arith, length-drop from xs))

module _ (rs : StandInRows) (us : length rs.users ≡ USERS * ROWS) (zs : length rs.amounts ≡ USERS * ROWS) (i : ℕ) (l : i < ROWS) where
  abbrev n : ℕ
  n = get_or rs.counts i 0

  -- the numbers and the amounts of row i
  module _ (few : n ≤ USERS) where
    pub row_users : users_of (row_at rs i) ≡ take n (drop (USERS * i) rs.users)
    row_users = map_table (λ (p : Pair). p.user) (pair_at rs i) n ∙ part 0 rs.users (USERS * i) n (omega arith)

    pub row_amounts : amounts_of (row_at rs i) ≡ take n (drop (USERS * i) rs.amounts)
    row_amounts = map_table (λ (p : Pair). p.amount) (pair_at rs i) n ∙ part (pos 0) rs.amounts (USERS * i) n (omega arith)

    pub row_is_right : let ns = take n (drop (USERS * i) rs.users) in
        both (both (every is_number ns) (rising ns)) (every (no_more AMOUNT) (take n (drop (USERS * i) rs.amounts))) ≡ row_right (row_at rs i)
    row_is_right =
        sym (ap₂ (λ ns ms. both (both (every is_number ns) (rising ns)) (every (no_more AMOUNT) ms)) row_users row_amounts)
        ∙ grouped (every is_number (users_of (row_at rs i))) (rising (users_of (row_at rs i))) (every (no_more AMOUNT) (amounts_of (row_at rs i)))
        ∙ sym (ap (λ b. both b (both (every is_number (users_of (row_at rs i))) (both (rising (users_of (row_at rs i))) (every (no_more AMOUNT) (amounts_of (row_at rs i))))))
        (le-leb (length (row_at rs i)) USERS (omega (arith, length_table (pair_at rs i) n))))
      where
        grouped : (a b c : Bool) → both (both a b) c ≡ both a (both b c)
        grouped true b c = refl
        grouped false b c = refl

  -- a row of more than 64 pairs
  pub row_too_long : USERS < n → row_right (row_at rs i) ≡ false
  row_too_long m =
      ap (λ b. both b (both (every is_number (users_of (row_at rs i))) (both (rising (users_of (row_at rs i))) (every (no_more AMOUNT) (amounts_of (row_at rs i))))))
      (lt-leb (length (row_at rs i)) USERS (omega (arith, length_table (pair_at rs i) n)))

-- ---- every row

module _ (rs : StandInRows) where
  pub rows_long : length (rows_of rs) ≡ ROWS
  unfolding rows_of
  rows_long = length_table (row_at rs) ROWS

  pub nth_row : (i : ℕ) → i < ROWS → get_or (rows_of rs) i [] ≡ row_at rs i
  unfolding rows_of
  nth_row i l = getD_table (row_at rs) ROWS i [] l

  pub all_right : ((i : ℕ) → i < ROWS → row_right (row_at rs i) ≡ true) → every row_right (rows_of rs) ≡ true
  all_right h = at_every row_right [] (rows_of rs) (λ i l. let m : i < ROWS = omega (arith, rows_long) in ap row_right (nth_row i m) ∙ h i m)

  pub one_wrong : (i : ℕ) → i < ROWS → row_right (row_at rs i) ≡ false → every row_right (rows_of rs) ≡ false
  one_wrong i l e = one_fails row_right [] (rows_of rs) i (omega (arith, rows_long)) (ap row_right (nth_row i l) ∙ e)

-- ---- the nearest filled row

nearest_at : (xss : List (List Pair)) (r : ℕ) → r < length xss → ((k : ℕ) → k < r → get_or xss k [] ≡ []) → some (get_or xss r []) ≡ true
    → (nearest_filled xss ≡ get_or xss r []) × (looked_at xss ≡ suc r)
unfolding nearest_filled looked_at
nearest_at [] r l h s = absurd (omega arith)
nearest_at ([] ∷ xss) zero l h s = never s
nearest_at ((p ∷ ps) ∷ xss) zero l h s = (refl, refl)
nearest_at ([] ∷ xss) (suc r) l h s =
    let e = nearest_at xss r (omega arith) (λ k m. h (suc k) (omega arith)) s in
    (e.0, ap suc e.1)
nearest_at ((p ∷ ps) ∷ xss) (suc r) l h s = absurd (nothing (h 0 (omega arith)))
  where
    nothing : p ∷ ps ≡ [] → ⊥
    nothing e = let z : ◌≡◌ {A = ℕ} 0 1 = cc in omega arith

none_at : (xss : List (List Pair)) → ((k : ℕ) → k < length xss → get_or xss k [] ≡ []) → nearest_filled xss ≡ []
unfolding nearest_filled
none_at [] h = refl
none_at ([] ∷ xss) h = none_at xss (λ k l. h (suc k) (omega arith))
none_at ((p ∷ ps) ∷ xss) h = absurd (nothing (h 0 (omega arith)))
  where
    nothing : p ∷ ps ≡ [] → ⊥
    nothing e = let z : ◌≡◌ {A = ℕ} 0 1 = cc in omega arith

module _ (rs : StandInRows) (r : ℕ) (near : Nearest rs.counts r) where
  empty : (k : ℕ) → k < r → get_or (rows_of rs) k [] ≡ []
  unfolding table
  empty k l = nth_row rs k (omega (arith, near.within)) ∙ ap (table (pair_at rs k)) (near.before k l)

  filled : r < ROWS → some (get_or (rows_of rs) r []) ≡ true
  filled l =
      ap some (nth_row rs r l)
      ∙ length_some (row_at rs r) (positive (length (row_at rs r)) (λ e. near.there l (sym (length_table (pair_at rs r) (get_or rs.counts r 0)) ∙ e)))
    where
      positive : (n : ℕ) → (n ≡ 0 → ⊥) → 0 < n
      positive zero h = absurd (h refl)
      positive (suc n) h = omega arith

  pub row_used : r < ROWS → nearest_filled (rows_of rs) ≡ row_at rs r
  row_used l = (nearest_at (rows_of rs) r (omega (arith, rows_long rs)) empty (filled l)).0 ∙ nth_row rs r l

  pub rows_passed : r < ROWS → looked_at (rows_of rs) ≡ r + 1
  rows_passed l = (nearest_at (rows_of rs) r (omega (arith, rows_long rs)) empty (filled l)).1 ∙ omega arith

  pub row_filled : r < ROWS → some (nearest_filled (rows_of rs)) ≡ true
  row_filled l = ap some (nearest_at (rows_of rs) r (omega (arith, rows_long rs)) empty (filled l)).0 ∙ filled l

  pub none_filled : r ≡ ROWS → nearest_filled (rows_of rs) ≡ []
  none_filled e = none_at (rows_of rs) (λ k l. empty k (omega (arith, rows_long rs)))

-- ---- the rows of three lists

module _ (cs us : List ℕ) (zs : List ℤ) where
  pub rows_lengths : rows_readable cs us zs ≡ true → (length cs ≡ ROWS) × (length us ≡ USERS * ROWS) × (length zs ≡ USERS * ROWS)
  unfolding rows_readable
  rows_lengths e =
      let p = eqb (length cs) ROWS in
      let q = eqb (length us) (USERS * ROWS) in
      let r = eqb (length zs) (USERS * ROWS) in
      let f = both_snd p (both q r) e in
      (eqb-true (length cs) ROWS (both_fst p (both q r) e), eqb-true (length us) (USERS * ROWS) (both_fst q r f), eqb-true (length zs) (USERS * ROWS) (both_snd q r f))

  pub lengths_rows : length cs ≡ ROWS → length us ≡ USERS * ROWS → length zs ≡ USERS * ROWS → rows_readable cs us zs ≡ true
  unfolding rows_readable
  lengths_rows e f g = rw (eq-eqb (length cs) ROWS e, eq-eqb (length us) (USERS * ROWS) f, eq-eqb (length zs) (USERS * ROWS) g)

  pub rows_held : rows_readable cs us zs ≡ true → rows cs us zs ≡ rows_in cs us zs
  unfolding rows_in
  rows_held e = rw e

  -- lists of other lengths
  pub rows_other : rows_readable cs us zs ≡ false → every row_right (rows_of (rows_in cs us zs)) ≡ false
  unfolding rows_in rows_of table every
  rows_other e = rw e

  -- rows in range stand in lists of these lengths
  pub right_readable : every row_right (rows_of (rows_in cs us zs)) ≡ true → rows_readable cs us zs ≡ true
  right_readable h = go (rows_readable cs us zs) refl
    where
      go : (p : Bool) → rows_readable cs us zs ≡ p → p ≡ true
      go true e = refl
      go false e = true≢false (sym h ∙ rows_other e)
