-- The outcomes of an inventory, each from what its tests showed. Assumes nothing.
use mathlib.Core.Path.{◌≡◌, refl, sym, ap, ap₂, ◌∙◌, subst}
use mathlib.Core.Bool.{true, false, not}
use mathlib.Core.List.{List, [], ◌∷◌, ◌++◌, map}
use Prim.Native.Nat.{ℕ, zero, suc, ◌*◌, ◌≤◌, ◌<◌}
use native.Mathlib.Omega.{arith}
use lib.IntN.{ℤ}
use lib.ListN.{length, drop}
use borrow.Author.Tests.{lt-ltb, le-ltb, not-true}
use Rattle.numbers.specs.Sums.{atZ}
use Rattle.numbers.specs.Lists.{every, flat}
use Rattle.numbers.specs.Amounts.{is_negative}
use Rattle.numbers.proofs.Lists.{both_fst, both_snd}
use Rattle.point_day.specs.Limits.{KINDS}
use Rattle.point_day.specs.Calls.{Verdict, verdict}
use Rattle.point_day.specs.Struct.{read, none_below, taken}
use Rattle.point_day.specs.declared.PointDay.{PointDay}
use Rattle.point_day.proofs.Taken.{taken_facts}
use Rattle.point_day.proofs.Called.{test_holds, test_passed, none_left}
use Rattle.inventory.specs.Row.{ROW}
use Rattle.inventory.specs.Cells.{cells}
use Rattle.inventory.specs.Inventory.{five, rows, Answer, refused, written, tests, by, inventory, Reordered, none, keep, Afterwards}
use Rattle.inventory.specs.Listed.{row_total, listed_in, Ends}
use Rattle.inventory.proofs.Listing.{listed, listed_count}

-- a list is an order of its own
unchanged : {A : Type 0} (xs : List A) → Reordered xs xs
unchanged [] = none
unchanged (x ∷ xs) = keep (unchanged xs)

not_negative : (zs : List ℤ) → none_below zs ≡ true → (i : ℕ) → is_negative (atZ zs i) ≡ false
unfolding every
not_negative [] e i = refl
not_negative (z ∷ zs) e zero = not-true (is_negative z) (both_fst (not (is_negative z)) _ e)
not_negative (z ∷ zs) e (suc i) = not_negative zs (both_snd (not (is_negative z)) _ e) i

module _ (d : PointDay) (buffer : List ℤ) where
  ends : (after : List ℤ) (a : Answer) → a ≡ inventory d buffer → Afterwards a (read d) buffer after → Ends d buffer a after
  ends after a e h = (e, subst (λ x. Afterwards x (read d) buffer after) e h)

  pub not_taken : taken d ≡ false → Ends d buffer (refused 2) buffer
  unfolding inventory
  not_taken e = ends buffer (refused 2) (rw e) refl

  module _ (t : taken d ≡ true) where
    by_verdict : {v : Verdict} → verdict (tests (read d) buffer) ≡ v → by v (length (rows (read d))) ≡ inventory d buffer
    unfolding inventory
    by_verdict e = rw (t, e)

    pub not_allotted : d.allotted ≡ false → Ends d buffer (refused 1) buffer
    unfolding tests read
    not_allotted e = ends buffer (refused 1) (by_verdict (test_holds 1 _ _ (ap not e))) refl

    -- the rows of the users' cells
    counted : length (rows (read d)) ≡ row_total d
    counted = listed_count d (not_negative d.consumption (taken_facts d t).consumption) (not_negative d.losses (taken_facts d t).losses)

    numbers_are : flat (map five (rows (read d))) ≡ cells d.users d.consumption d.losses d.balance (KINDS * d.count)
    numbers_are = listed d (not_negative d.consumption (taken_facts d t).consumption) (not_negative d.losses (taken_facts d t).losses)

    module _ (a : d.allotted ≡ true) where
      pub short : length buffer < ROW * row_total d → Ends d buffer (refused 14) buffer
      unfolding tests read
      short l =
          ends buffer (refused 14) (by_verdict (test_passed 1 _ _ (ap not a) (test_holds 14 _ _ (lt-ltb (length buffer) (ROW * length (rows (read d))) (omega (arith, counted)))))) refl

      pub lists : ROW * row_total d ≤ length buffer → (count : ℕ) → count ≡ row_total d → (after : List ℤ) → after ≡ listed_in d buffer → Ends d buffer (written count) after
      unfolding tests read
      lists l count k after e =
          ends after (written count)
          (ap written (k ∙ sym counted)
          ∙ by_verdict (test_passed 1 _ _ (ap not a) (test_passed 14 _ _ (le-ltb (length buffer) (ROW * length (rows (read d))) (omega (arith, counted))) none_left)))
          (record {
            listed = rows (read d);
            each_once = unchanged (rows (read d));
            buffer = e ∙ sym (ap₂ (λ s m. s ++ drop (ROW * m) buffer) numbers_are counted);
          })
