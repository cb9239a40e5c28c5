-- The rows of the first cells: their count, and their numbers one after the other. Assumes nothing.
use mathlib.Core.Path.{◌≡◌, refl, sym, ap, ap₂, ◌∙◌}
use mathlib.Core.Bool.{Bool, true, false}
use mathlib.Core.List.{List, [], ◌++◌, append_assoc}
use Prim.Native.Nat.{ℕ, ◌+◌, ◌*◌, ◌/◌, ◌%◌, ◌≤◌, ◌<◌}
use native.Mathlib.Omega.{arith}
use native.Mathlib.Numerals.{add-one}
use lib.IntN.{ℤ}
use lib.ListN.{length, take, drop, length-append}
use mir.Val.{bool_byte}
use lib.Seq.{take_at, drop-append-add, drop-drop}
use Rattle.numbers.specs.Sums.{bit, pick, sum, table, at, atZ}
use Rattle.numbers.specs.Lists.{flat}
use Rattle.numbers.proofs.Sums.{sum_more, sum_mono, bits_le}
use Rattle.point_day.specs.Limits.{KINDS}
use Rattle.point_day.proofs.Back.{flat_snoc}
use Rattle.inventory.specs.Row.{ROW, is_row, row, Put}
use Rattle.inventory.specs.Cells.{cell, cells, row_count}

-- ---- the count of the rows

-- a test as a number
pub bool_bit : (b : Bool) → bool_byte b ≡ bit b
bool_bit true = refl
bool_bit false = refl

module _ (cs ls bs : List ℤ) where
  pub count_none : 0 ≡ row_count cs ls bs 0
  unfolding row_count sum
  count_none = refl

  pub count_more : (i : ℕ) → row_count cs ls bs (i + 1) ≡ row_count cs ls bs i + bit (is_row (atZ cs i) (atZ ls i) (atZ bs i))
  unfolding row_count
  count_more i = sum_more (λ j. bit (is_row (atZ cs j) (atZ ls j) (atZ bs j))) i

  pub count_mono : (i n : ℕ) → i ≤ n → row_count cs ls bs i ≤ row_count cs ls bs n
  unfolding row_count
  count_mono i n l = sum_mono (λ j. bit (is_row (atZ cs j) (atZ ls j) (atZ bs j))) i n l

  pub count_le : (n : ℕ) → row_count cs ls bs n ≤ n
  unfolding row_count
  count_le n = bits_le (λ j. is_row (atZ cs j) (atZ ls j) (atZ bs j)) n

  -- a row is one of the rows to come
  pub count_row : (i n : ℕ) → i < n → is_row (atZ cs i) (atZ ls i) (atZ bs i) ≡ true → row_count cs ls bs i + 1 ≤ row_count cs ls bs n
  count_row i n l e = omega (arith, count_more i, count_mono (i + 1) n (omega arith), ap bit e)

-- ---- the rows of the first cells, one after the other

pub record RowsSoFar (us : List ℕ) (cs ls bs out₀ : List ℤ) (i place : ℕ) (out : List ℤ) : Type 0 where
  pub counted : place ≡ ROW * row_count cs ls bs i
  pub long : length (cells us cs ls bs i) ≡ place
  pub buffer : out ≡ cells us cs ls bs i ++ drop place out₀
  pub same : length out ≡ length out₀

module _ (us : List ℕ) (cs ls bs out₀ : List ℤ) where
  pub none_written : RowsSoFar us cs ls bs out₀ 0 0 out₀
  unfolding cells table flat
  none_written = record { counted = omega (arith, count_none cs ls bs); long = refl; buffer = refl; same = refl }

  cells_more : (i : ℕ) → cells us cs ls bs (i + 1) ≡ cells us cs ls bs i ++ cell us cs ls bs i
  unfolding cells table
  cells_more i = rw add-one (flat_snoc (table (cell us cs ls bs) i) (cell us cs ls bs i))

  cell_long : (i : ℕ) → length (cell us cs ls bs i) ≡ ROW * bit (is_row (atZ cs i) (atZ ls i) (atZ bs i))
  cell_long i = go (is_row (atZ cs i) (atZ ls i) (atZ bs i))
    where
      go : (p : Bool) → length (pick p (row (at us (i / KINDS)) (i % KINDS + 1) (atZ cs i) (atZ ls i) (atZ bs i)) []) ≡ ROW * bit p
      go true = refl
      go false = refl

  module _ (i place : ℕ) (out : List ℤ) (h : RowsSoFar us cs ls bs out₀ i place out) where
    -- there is room for the next row
    pub row_fits : (n : ℕ) → i < n → ROW * row_count cs ls bs n ≤ length out₀ → is_row (atZ cs i) (atZ ls i) (atZ bs i) ≡ true → place + ROW ≤ length out
    row_fits n l r e = omega (arith, h.counted, h.same, count_row cs ls bs i n l e)

    pub more_written : {next : ℕ} {after : List ℤ} → Put place (cell us cs ls bs i) out next after → length after ≡ length out → RowsSoFar us cs ls bs out₀ (i + 1) next after
    more_written {next} {after} p k = record {
      counted = omega (arith, p.next_is, h.counted, cell_long i, count_more cs ls bs i);
      long = ap length (cells_more i) ∙ length-append (cells us cs ls bs i) (cell us cs ls bs i) ∙ omega (arith, h.long, p.next_is);
      buffer = p.buffer ∙ ap₂ (λ s t. s ++ (cell us cs ls bs i ++ t)) front rest ∙ sym (append_assoc (cells us cs ls bs i) (cell us cs ls bs i) (drop next out₀)) ∙ ap (λ s. s ++ drop next out₀) (sym (cells_more i));
      same = k ∙ h.same;
    }
      where
        front : take place out ≡ cells us cs ls bs i
        front = ap (take place) h.buffer ∙ take_at (cells us cs ls bs i) (drop place out₀) place h.long

        rest : drop next out ≡ drop next out₀
        rest =
            let e : next ≡ length (cells us cs ls bs i) + length (cell us cs ls bs i) = omega (arith, h.long, p.next_is) in
            ap₂ drop e h.buffer
            ∙ drop-append-add (cells us cs ls bs i) (drop place out₀) (length (cell us cs ls bs i))
            ∙ drop-drop (length (cell us cs ls bs i)) place out₀
            ∙ ap (λ m. drop m out₀) (sym p.next_is)
