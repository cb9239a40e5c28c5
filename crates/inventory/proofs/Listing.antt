-- The rows of a point-day are those of its cells. Assumes nothing.
use mathlib.Core.Path.{◌≡◌, refl, sym, ap, ap₂, ◌∙◌}
use mathlib.Core.Bool.{Bool, true, false, not}
use mathlib.Core.List.{List, [], ◌∷◌, ◌++◌, map, append_assoc, append-nil}
use Prim.Native.Nat.{ℕ, zero, suc, ◌+◌, ◌-◌, ◌*◌, ◌/◌, ◌%◌, ◌<◌}
use native.Mathlib.Omega.{arith}
use lib.Dec.{eqb}
use lib.IntN.{ℤ, pos, nat_abs}
use lib.ListN.{length, get_or, drop, get_or-map}
use lib.Seq.{get_or-take, get_or-drop}
use Rattle.numbers.specs.Sums.{bit, pick, sum, table, at, atZ, total}
use Rattle.numbers.specs.Lists.{both, flat}
use Rattle.numbers.specs.Amounts.{is_negative}
use Rattle.numbers.proofs.Sums.{total_append}
use Rattle.numbers.proofs.Lists.{map_append, flat_append}
use Rattle.numbers.proofs.Amounts.{pos_size}
use Rattle.point_day.specs.Limits.{KINDS}
use Rattle.point_day.specs.Day.{is_zero}
use Rattle.point_day.specs.Calls.{kinds}
use Rattle.point_day.specs.Struct.{kinds_of, user_at, read}
use Rattle.point_day.specs.declared.PointDay.{PointDay}
use Rattle.point_day.proofs.Back.{flat_snoc}
use Rattle.inventory.specs.Row.{is_row, row}
use Rattle.inventory.specs.Cells.{cell, cells, row_count}
use Rattle.inventory.specs.Inventory.{Row, five, row_of, some_amount, those, rows}

-- ---- rows picked one by one

picked : Row → List ℤ
picked r = pick (some_amount r) (five r) []

those_flat : (rs : List Row) → flat (map five (those some_amount rs)) ≡ flat (map picked rs)
unfolding those flat picked
those_flat [] = refl
those_flat (r ∷ rs) = go (some_amount r) (those_flat rs)
  where
    go : (p : Bool) → flat (map five (those some_amount rs)) ≡ flat (map picked rs)
        → flat (map five (pick p (r ∷ those some_amount rs) (those some_amount rs))) ≡ pick p (five r) [] ++ flat (map picked rs)
    go true h = ap (λ t. five r ++ t) h
    go false h = h

those_count : (rs : List Row) → length (those some_amount rs) ≡ total (map (λ r. bit (some_amount r)) rs)
unfolding those total
those_count [] = refl
those_count (r ∷ rs) = go (some_amount r) (those_count rs)
  where
    go : (p : Bool) → length (those some_amount rs) ≡ total (map (λ r. bit (some_amount r)) rs)
        → length (pick p (r ∷ those some_amount rs) (those some_amount rs)) ≡ bit p + total (map (λ r. bit (some_amount r)) rs)
    go true h = omega arith
    go false h = omega arith

-- ---- a kind of a slot is a cell

kind_at : {A : Type 0} (xs : List A) (s k : ℕ) (x : A) → k < KINDS → get_or (kinds_of s xs) k x ≡ get_or xs (KINDS * s + k) x
kind_at xs s k x l = get_or-take KINDS (drop (KINDS * s) xs) k x l ∙ get_or-drop (KINDS * s) xs k x

size_at : (xs : List ℤ) (s k : ℕ) → k < KINDS → at (map nat_abs (kinds_of s xs)) k ≡ nat_abs (atZ xs (KINDS * s + k))
size_at xs s k l = get_or-map nat_abs (kinds_of s xs) k (pos 0) ∙ ap nat_abs (kind_at xs s k (pos 0) l)

module _ (d : PointDay) (c-right : (i : ℕ) → is_negative (atZ d.consumption i) ≡ false) (l-right : (i : ℕ) → is_negative (atZ d.losses i) ≡ false) where
  abbrev here : ℕ → List ℤ
  here i = cell d.users d.consumption d.losses d.balance i

  abbrev some : ℕ → Bool
  some i = is_row (atZ d.consumption i) (atZ d.losses i) (atZ d.balance i)

  module _ (s k : ℕ) (l : k < KINDS) where
    abbrev i : ℕ
    i = KINDS * s + k

    some_is : some_amount (row_of (user_at d s) (suc k)) ≡ some i
    unfolding user_at
    some_is =
        let e : suc k - 1 ≡ k = omega arith in
        ap (λ m. not (both (eqb (at (map nat_abs (kinds_of s d.consumption)) m) 0) (both (eqb (at (map nat_abs (kinds_of s d.losses)) m) 0) (is_zero (atZ (kinds_of s d.balance) m))))) e
        ∙ ap₂ (λ x y. not (both (eqb x 0) (both (eqb y 0) (is_zero (atZ (kinds_of s d.balance) k))))) (size_at d.consumption s k l) (size_at d.losses s k l)
        ∙ ap (λ z. is_row (atZ d.consumption i) (atZ d.losses i) z) (kind_at d.balance s k (pos 0) l)

    five_is : five (row_of (user_at d s) (suc k)) ≡ row (at d.users (i / KINDS)) (i % KINDS + 1) (atZ d.consumption i) (atZ d.losses i) (atZ d.balance i)
    unfolding user_at
    five_is =
        let e : s ≡ i / KINDS = omega arith in
        let f : suc k ≡ i % KINDS + 1 = omega arith in
        let g : suc k - 1 ≡ k = omega arith in
        ap (λ m. pos (at d.users s) ∷ pos (suc k) ∷ pos (at (map nat_abs (kinds_of s d.consumption)) m) ∷ pos (at (map nat_abs (kinds_of s d.losses)) m) ∷ atZ (kinds_of s d.balance) m ∷ []) g
        ∙ ap₂ (λ x y. pos (at d.users s) ∷ pos (suc k) ∷ pos x ∷ pos y ∷ atZ (kinds_of s d.balance) k ∷ []) (size_at d.consumption s k l) (size_at d.losses s k l)
        ∙ ap₂ (λ x y. pos (at d.users s) ∷ pos (suc k) ∷ x ∷ y ∷ atZ (kinds_of s d.balance) k ∷ []) (sym (pos_size _ (c-right i))) (sym (pos_size _ (l-right i)))
        ∙ ap₂ (λ m n. pos (at d.users m) ∷ pos n ∷ atZ d.consumption i ∷ atZ d.losses i ∷ atZ (kinds_of s d.balance) k ∷ []) e f
        ∙ ap (λ z. pos (at d.users (i / KINDS)) ∷ pos (i % KINDS + 1) ∷ atZ d.consumption i ∷ atZ d.losses i ∷ z ∷ []) (kind_at d.balance s k (pos 0) l)

    picked_is : picked (row_of (user_at d s) (suc k)) ≡ here i
    unfolding picked
    picked_is = ap₂ (λ p xs. pick p xs []) some_is five_is

  -- ---- slot by slot

  abbrev slots : ℕ → List Row
  slots n = flat (map (λ u. map (row_of u) kinds) (table (user_at d) n))

  slots_more : (n : ℕ) → slots (suc n) ≡ slots n ++ map (row_of (user_at d n)) kinds
  unfolding table
  slots_more n =
      ap flat (map_append (λ u. map (row_of u) kinds) (table (user_at d) n) (user_at d n ∷ []))
      ∙ flat_snoc (map (λ u. map (row_of u) kinds) (table (user_at d) n)) (map (row_of (user_at d n)) kinds)

  abbrev all_cells : ℕ → List ℤ
  all_cells n = cells d.users d.consumption d.losses d.balance n

  cells_run : (i m : ℕ) → all_cells (i + m) ≡ all_cells i ++ flat (table (λ k. here (i + k)) m)
  unfolding cells table flat
  cells_run i zero = let e : i + 0 ≡ i = omega arith in ap all_cells e ∙ sym (append-nil (all_cells i))
  cells_run i (suc m) =
      let e : i + suc m ≡ suc (i + m) = omega arith in
      ap all_cells e
      ∙ flat_snoc (table here (i + m)) (here (i + m))
      ∙ ap (λ t. t ++ here (i + m)) (cells_run i m)
      ∙ append_assoc (all_cells i) (flat (table (λ k. here (i + k)) m)) (here (i + m))
      ∙ ap (λ t. all_cells i ++ t) (sym (flat_snoc (table (λ k. here (i + k)) m) (here (i + m))))

  numbers_are : (n : ℕ) → flat (map picked (slots n)) ≡ all_cells (KINDS * n)
  unfolding cells table flat
  numbers_are zero = refl
  numbers_are (suc n) =
      let e : KINDS * suc n ≡ KINDS * n + KINDS = omega arith in
      let K = map (row_of (user_at d n)) kinds in
      ap (λ rs. flat (map picked rs)) (slots_more n)
      ∙ ap flat (map_append picked (slots n) K)
      ∙ flat_append (map picked (slots n)) (map picked K)
      ∙ ap₂ ◌++◌ (numbers_are n)
      (ap₂ ◌++◌ (picked_is n 0 (omega arith))
      (ap₂ ◌++◌ (picked_is n 1 (omega arith))
      (ap₂ ◌++◌ (picked_is n 2 (omega arith)) (ap₂ ◌++◌ (picked_is n 3 (omega arith)) (ap (λ t. t ++ []) (picked_is n 4 (omega arith)))))))
      ∙ sym (cells_run (KINDS * n) KINDS)
      ∙ ap all_cells (sym e)

  -- the count

  abbrev all_rows : ℕ → ℕ
  all_rows n = row_count d.consumption d.losses d.balance n

  rows_run : (i m : ℕ) → all_rows (i + m) ≡ all_rows i + sum (λ k. bit (some (i + k))) m
  unfolding row_count sum
  rows_run i zero = let e : i + 0 ≡ i = omega arith in ap all_rows e ∙ omega arith
  rows_run i (suc m) =
      let e : i + suc m ≡ suc (i + m) = omega arith in
      ap all_rows e ∙ omega (arith, rows_run i m)

  counts_are : (n : ℕ) → total (map (λ r. bit (some_amount r)) (slots n)) ≡ all_rows (KINDS * n)
  unfolding row_count table flat total sum
  counts_are zero = refl
  counts_are (suc n) =
      let e : KINDS * suc n ≡ KINDS * n + KINDS = omega arith in
      let K = map (row_of (user_at d n)) kinds in
      ap (λ rs. total (map (λ r. bit (some_amount r)) rs)) (slots_more n)
      ∙ ap total (map_append (λ r. bit (some_amount r)) (slots n) K)
      ∙ total_append (map (λ r. bit (some_amount r)) (slots n)) (map (λ r. bit (some_amount r)) K)
      ∙ omega (
        arith,
        counts_are n,
        rows_run (KINDS * n) KINDS,
        ap all_rows e,
        ap bit (some_is n 0 (omega arith)),
        ap bit (some_is n 1 (omega arith)),
        ap bit (some_is n 2 (omega arith)),
        ap bit (some_is n 3 (omega arith)),
        ap bit (some_is n 4 (omega arith)),
      )

  -- ---- the point-day

  pub listed : flat (map five (rows (read d))) ≡ all_cells (KINDS * d.count)
  unfolding rows read
  listed = those_flat (slots d.count) ∙ numbers_are d.count

  pub listed_count : length (rows (read d)) ≡ all_rows (KINDS * d.count)
  unfolding rows read
  listed_count = those_count (slots d.count) ∙ counts_are d.count
