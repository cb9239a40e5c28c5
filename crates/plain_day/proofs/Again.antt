-- The numbers that a point-day is read from are those of the point-day, stored in their place. Assumes nothing.
use mathlib.Core.Path.{◌≡◌, refl, sym, ap, ◌∙◌, subst}
use mathlib.Core.Bool.{Bool, true, false}
use mathlib.Core.List.{List, [], ◌∷◌, ◌++◌, map}
use Prim.Native.Nat.{ℕ, zero, suc, ◌+◌, ◌≤◌}
use native.Mathlib.Omega.{arith}
use lib.Dec.{leb, eqb}
use lib.IntN.{ℤ, pos, negsuc, nat_abs}
use lib.ListN.{length, take, drop, length-drop, length-map}
use lib.Seq.{drop-cons, take-add, take_all}
use borrow.Author.Tests.{leb-true}
use Rattle.numbers.specs.Sums.{pick, bit, atZ}
use Rattle.numbers.specs.Lists.{every}
use Rattle.numbers.proofs.Lists.{true≢false, both_fst, both_snd}
use Rattle.point_day.specs.Limits.{USERS, CELLS, LIMIT, LAST_NUMBER}
use Rattle.point_day.specs.Day.{is_measured}
use Rattle.point_day.specs.Struct.{Sized}
use Rattle.plain_day.specs.Layout.{LENGTH, USERS_AT, CONSUMPTION_AT, LOSSES_AT, BALANCE_AT, REVISION_AT, part, up_to, emissions_readable, head_readable, is_readable, stage_of, measurement_of, count_in, day_in, stage_number, emission_number, downstream_number, stored}
use Rattle.plain_day.proofs.Ranges.{up_to_le, laid_length, laid_users, part_length}
use Rattle.std.specs.Prelude.{None}
use Rattle.point_day.specs.Day.{metered}

-- ---- a number that is read and written again is itself

size_again : (m : ℕ) (x : ℤ) → up_to m x ≡ true → pos (nat_abs x) ≡ x
unfolding up_to
size_again m (pos n) e = refl
size_again m (negsuc n) e = true≢false (sym e)

stage_again : (x : ℤ) → up_to 2 x ≡ true → pos (stage_number (stage_of (nat_abs x))) ≡ x
unfolding up_to
stage_again (pos zero) e = refl
stage_again (pos (suc zero)) e = refl
stage_again (pos (suc (suc zero))) e = refl
stage_again (pos (suc (suc (suc n)))) e = absurd (omega (arith, leb-true (suc (suc (suc n))) 2 e))
stage_again (negsuc n) e = true≢false (sym e)

flag_again : (x : ℤ) → up_to 1 x ≡ true → pos (bit (eqb (nat_abs x) 1)) ≡ x
unfolding up_to
flag_again (pos zero) e = refl
flag_again (pos (suc zero)) e = refl
flag_again (pos (suc (suc n))) e = absurd (omega (arith, leb-true (suc (suc n)) 1 e))
flag_again (negsuc n) e = true≢false (sym e)

measured_again : (x : ℤ) (e d : ℕ) → up_to 1 x ≡ true → pos (bit (is_measured (measurement_of (nat_abs x) e d))) ≡ x
unfolding up_to
measured_again (pos zero) e d h = refl
measured_again (pos (suc zero)) e d h = refl
measured_again (pos (suc (suc n))) e d h = absurd (omega (arith, leb-true (suc (suc n)) 1 h))
measured_again (negsuc n) e d h = true≢false (sym h)

-- measured or not
emission_again : (b : Bool) (l : ℕ) (x : ℤ) (d : ℕ) → up_to l x ≡ true → emission_number (pick b None (metered (nat_abs x) d)) x ≡ x
emission_again true l x d h = refl
emission_again false l x d h = size_again l x h

downstream_again : (b : Bool) (l : ℕ) (x : ℤ) (e : ℕ) → up_to l x ≡ true → downstream_number (pick b None (metered e (nat_abs x))) x ≡ x
downstream_again true l x e h = refl
downstream_again false l x e h = size_again l x h

users_again : (us : List ℤ) → every (up_to LAST_NUMBER) us ≡ true → map pos (map nat_abs us) ≡ us
unfolding every up_to
users_again [] e = refl
users_again (pos n ∷ us) e = ap (λ t. pos n ∷ t) (users_again us (both_snd (leb n LAST_NUMBER) _ e))
users_again (negsuc n ∷ us) e = true≢false (sym e)

-- ---- all numbers

-- the first six numbers, and the rest
six : (xs : List ℤ) → 6 ≤ length xs → xs ≡ atZ xs 0 ∷ atZ xs 1 ∷ atZ xs 2 ∷ atZ xs 3 ∷ atZ xs 4 ∷ atZ xs 5 ∷ drop 6 xs
six xs l =
    drop-cons xs 0 (pos 0) (omega arith)
    ∙ ap (λ t. atZ xs 0 ∷ t) (drop-cons xs 1 (pos 0) (omega arith)
    ∙ ap (λ t. atZ xs 1 ∷ t) (drop-cons xs 2 (pos 0) (omega arith)
    ∙ ap (λ t. atZ xs 2 ∷ t) (drop-cons xs 3 (pos 0) (omega arith)
    ∙ ap (λ t. atZ xs 3 ∷ t) (drop-cons xs 4 (pos 0) (omega arith)
    ∙ ap (λ t. atZ xs 4 ∷ t) (drop-cons xs 5 (pos 0) (omega arith))))))

-- five parts of a list: one of length n, three of length m, one of length n
five : (n m : ℕ) (r : List ℤ) → length r ≡ n + m + m + m + n
    → take n r ++ take m (drop n r) ++ take m (drop (n + m) r) ++ take m (drop (n + m + m) r) ++ take n (drop (n + m + m + m) r) ≡ r
five n m r l =
    ap (λ t. t ++ take m (drop (n + m) r) ++ take m (drop (n + m + m) r) ++ take n (drop (n + m + m + m) r)) (sym (take-add n m r))
    ∙ ap (λ t. t ++ take m (drop (n + m + m) r) ++ take n (drop (n + m + m + m) r)) (sym (take-add (n + m) m r))
    ∙ ap (λ t. t ++ take n (drop (n + m + m + m) r)) (sym (take-add (n + m + m) m r))
    ∙ sym (take-add (n + m + m + m) n r)
    ∙ take_all (n + m + m + m + n) r (omega arith)

module _ (x0 x1 x2 x3 x4 x5 : ℤ) (r : List ℤ) where
  parts_again : head_readable x0 x1 x2 x3 x4 x5 ≡ true → every (up_to LAST_NUMBER) (take USERS r) ≡ true → length r ≡ USERS + CELLS + CELLS + CELLS + USERS
      → stored (day_in (x0 ∷ x1 ∷ x2 ∷ x3 ∷ x4 ∷ x5 ∷ r)) (x0 ∷ x1 ∷ x2 ∷ x3 ∷ x4 ∷ x5 ∷ r) ≡ x0 ∷ x1 ∷ x2 ∷ x3 ∷ x4 ∷ x5 ∷ r
  unfolding head_readable emissions_readable stored day_in
  parts_again h u l =
      let h1 = both_snd (up_to 2 x0) _ h in
      let h2 = both_snd (up_to 1 x1) _ h1 in
      let h3 = both_snd (up_to 1 x2) _ h2 in
      let m = both_fst (emissions_readable x3 x4) _ h3 in
      let e = emission_again (eqb (nat_abs x2) 0) LIMIT x3 (nat_abs x4) (both_fst (up_to LIMIT x3) _ m) in
      let w = downstream_again (eqb (nat_abs x2) 0) (nat_abs x3) x4 (nat_abs x3) (both_snd (up_to LIMIT x3) _ m) in
      rw (stage_again x0 (both_fst (up_to 2 x0) _ h), flag_again x1 (both_fst (up_to 1 x1) _ h1), measured_again x2 (nat_abs x3) (nat_abs x4) (both_fst (up_to 1 x2) _ h2), e, w, size_again USERS x5 (both_snd (emissions_readable x3 x4) _ h3), users_again (take USERS r) u, five USERS CELLS r l)

module _ (xs : List ℤ) (e : is_readable xs ≡ true) where
  pub head_laid : head_readable (atZ xs 0) (atZ xs 1) (atZ xs 2) (atZ xs 3) (atZ xs 4) (atZ xs 5) ≡ true
  unfolding is_readable
  head_laid = both_fst (head_readable (atZ xs 0) (atZ xs 1) (atZ xs 2) (atZ xs 3) (atZ xs 4) (atZ xs 5)) _ (both_snd (eqb (length xs) LENGTH) _ e)

  -- stored in their own place, the numbers stay
  pub again : stored (day_in xs) xs ≡ xs
  again =
      subst (λ (ys : List ℤ). stored (day_in ys) ys ≡ ys) (sym (six xs (omega (arith, laid_length xs e))))
      (parts_again (atZ xs 0) (atZ xs 1) (atZ xs 2) (atZ xs 3) (atZ xs 4) (atZ xs 5) (drop 6 xs) head_laid (laid_users xs e) (omega (arith, length-drop 6 xs, laid_length xs e)))

  pub few : count_in xs ≤ USERS
  unfolding head_readable
  few =
      let h3 = both_snd (up_to 1 (atZ xs 2)) _ (both_snd (up_to 1 (atZ xs 1)) _ (both_snd (up_to 2 (atZ xs 0)) _ head_laid)) in
      up_to_le USERS (atZ xs 5) (both_snd (emissions_readable (atZ xs 3) (atZ xs 4)) _ h3)

  pub day_sized : Sized (day_in xs)
  unfolding day_in
  day_sized = record {
    users = length-map (part USERS_AT USERS xs) nat_abs ∙ part_length xs e USERS_AT USERS (omega arith);
    consumption = part_length xs e CONSUMPTION_AT CELLS (omega arith);
    losses = part_length xs e LOSSES_AT CELLS (omega arith);
    balance = part_length xs e BALANCE_AT CELLS (omega arith);
    revision = part_length xs e REVISION_AT USERS (omega arith);
  }
