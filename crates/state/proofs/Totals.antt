-- Sums over the users of a point-day, as sums over its arrays. Assumes nothing.
use mathlib.Core.Path.{◌≡◌, refl, sym, ap, ap₂, ◌∙◌}
use mathlib.Core.Bool.{true, not}
use mathlib.Core.List.{List, [], ◌∷◌, ◌++◌, map}
use Prim.Native.Nat.{ℕ, zero, suc, ◌+◌, ◌*◌, ◌≤◌, ◌<◌}
use native.Mathlib.Omega.{arith}
use lib.IntN.{ℤ, pos, nat_abs, ◌+ℤ◌, +ℤ_assoc}
use lib.ListN.{length, take, drop, length-drop, take-append-drop}
use lib.Seq.{take-add, get_or-take, get_or-drop, length-take-le}
use borrow.Author.Tests.{eqb-true, not-true}
use Rattle.numbers.specs.Sums.{sumZ, table, atZ, total, totalZ}
use Rattle.numbers.specs.Lists.{every}
use Rattle.numbers.specs.Amounts.{is_negative}
use Rattle.numbers.proofs.Sums.{total_append, totalZ_sum, totalZ_table, sumZ_eq}
use Rattle.numbers.proofs.Lists.{All, both_fst, both_snd, map_append}
use Rattle.numbers.proofs.Amounts.{NonNeg, sum_nonneg, exchange}
use Rattle.point_day.specs.Limits.{USERS, KINDS}
use Rattle.point_day.specs.Day.{User, offtake, all_offtake, whole, all_whole, is_zero}
use Rattle.point_day.specs.Struct.{Sized, kinds_of, user_at, read, none_past, none_below}
use Rattle.point_day.specs.declared.PointDay.{PointDay}
use Rattle.point_day.proofs.Back.{map_table, every_take, every_drop}
use Rattle.state.specs.Places.{offtake_at, balance_at, whole_at}

-- ---- sizes of an array's amounts

sizes_append : (xs ys : List ℤ) → total (map nat_abs (xs ++ ys)) ≡ total (map nat_abs xs) + total (map nat_abs ys)
sizes_append xs ys = ap total (map_append nat_abs xs ys) ∙ total_append (map nat_abs xs) (map nat_abs ys)

-- the slots one after the other are the array's start
slots_total : (xs : List ℤ) (n : ℕ) → total (table (λ s. total (map nat_abs (kinds_of s xs))) n) ≡ total (map nat_abs (take (KINDS * n) xs))
unfolding table total
slots_total xs zero = refl
slots_total xs (suc n) =
    let e : KINDS * suc n ≡ KINDS * n + KINDS = omega arith in
    let one : total (total (map nat_abs (kinds_of n xs)) ∷ []) ≡ total (map nat_abs (kinds_of n xs)) = omega arith in
    total_append (table (λ s. total (map nat_abs (kinds_of s xs))) n) (total (map nat_abs (kinds_of n xs)) ∷ [])
    ∙ ap₂ ◌+◌ (slots_total xs n) one
    ∙ sym (sizes_append (take (KINDS * n) xs) (kinds_of n xs))
    ∙ ap (λ t. total (map nat_abs t)) (sym (take-add (KINDS * n) KINDS xs) ∙ ap (λ k. take k xs) (sym e))

zeros_total : (xs : List ℤ) → every is_zero xs ≡ true → total (map nat_abs xs) ≡ 0
unfolding every total
zeros_total [] e = refl
zeros_total (x ∷ xs) e = omega (arith, eqb-true (nat_abs x) 0 (both_fst (is_zero x) _ e), zeros_total xs (both_snd (is_zero x) _ e))

start_total : (n : ℕ) (xs : List ℤ) → none_past n xs ≡ true → total (map nat_abs (take n xs)) ≡ total (map nat_abs xs)
start_total n xs e =
    let q : total (map nat_abs (take n xs)) + total (map nat_abs (drop n xs)) ≡ total (map nat_abs xs) = sym (sizes_append (take n xs) (drop n xs)) ∙ ap (λ t. total (map nat_abs t)) (take-append-drop n xs) in
    omega (arith, zeros_total (drop n xs) e)

both_totals : (f g : User → ℕ) (us : List User) → total (map (λ u. f u + g u) us) ≡ total (map f us) + total (map g us)
unfolding total
both_totals f g [] = refl
both_totals f g (u ∷ us) = omega (arith, both_totals f g us)

-- all consumption and losses
pub offtake_is : (d : PointDay) → none_past (KINDS * d.count) d.consumption ≡ true → none_past (KINDS * d.count) d.losses ≡ true
    → all_offtake (read d).users ≡ total (map nat_abs d.consumption) + total (map nat_abs d.losses)
unfolding read user_at
offtake_is d c l =
    both_totals (λ u. total u.consumption) (λ u. total u.losses) (table (user_at d) d.count)
    ∙ ap₂ ◌+◌
    (ap total (map_table (λ u. total u.consumption) (user_at d) d.count) ∙ slots_total d.consumption d.count ∙ start_total (KINDS * d.count) d.consumption c)
    (ap total (map_table (λ u. total u.losses) (user_at d) d.count) ∙ slots_total d.losses d.count ∙ start_total (KINDS * d.count) d.losses l)

-- ---- whole amounts

pub kinds_long : {A : Type 0} (xs : List A) (s : ℕ) → KINDS * s + KINDS ≤ length xs → length (kinds_of s xs) ≡ KINDS
kinds_long xs s l = length-take-le KINDS (drop (KINDS * s) xs) (omega (arith, length-drop (KINDS * s) xs))

pub kinds_sum : (xs : List ℤ) (s : ℕ) → KINDS * s + KINDS ≤ length xs → totalZ (kinds_of s xs) ≡ sumZ (λ k. atZ xs (KINDS * s + k)) KINDS
kinds_sum xs s l =
    totalZ_sum (kinds_of s xs)
    ∙ ap (sumZ (atZ (kinds_of s xs))) (kinds_long xs s l)
    ∙ sumZ_eq (atZ (kinds_of s xs)) (λ k. atZ xs (KINDS * s + k)) KINDS (λ k m. get_or-take KINDS (drop (KINDS * s) xs) k (pos 0) m ∙ get_or-drop (KINDS * s) xs k (pos 0))

nonneg : (zs : List ℤ) → none_below zs ≡ true → All NonNeg zs
unfolding every
nonneg [] h = tt
nonneg (z ∷ zs) h = (not-true (is_negative z) (both_fst (not (is_negative z)) _ h), nonneg zs (both_snd (not (is_negative z)) _ h))

kinds_sizes : (xs : List ℤ) (s : ℕ) → none_below xs ≡ true → pos (total (map nat_abs (kinds_of s xs))) ≡ totalZ (kinds_of s xs)
kinds_sizes xs s e =
    sym (sum_nonneg (kinds_of s xs) (nonneg (kinds_of s xs) (every_take (λ z. not (is_negative z)) KINDS (drop (KINDS * s) xs) (every_drop (λ z. not (is_negative z)) (KINDS * s) xs e))))

sumZ_both : (f g : ℕ → ℤ) (n : ℕ) → sumZ (λ i. f i +ℤ g i) n ≡ sumZ f n +ℤ sumZ g n
unfolding sumZ
sumZ_both f g zero = refl
sumZ_both f g (suc n) = ap (λ t. t +ℤ (f n +ℤ g n)) (sumZ_both f g n) ∙ exchange (sumZ f n) (sumZ g n) (f n) (g n)

-- consumption and losses, and balances with revision, are a whole amount
pub whole_parts : (cs ls bs rs : List ℤ) (s : ℕ) → offtake_at cs ls s +ℤ balance_at bs rs s ≡ whole_at cs ls bs rs s
whole_parts cs ls bs rs s =
    let O : ℕ → ℤ = λ k. atZ cs (KINDS * s + k) +ℤ atZ ls (KINDS * s + k) in
    let B : ℕ → ℤ = λ k. atZ bs (KINDS * s + k) in
    sym (+ℤ_assoc (sumZ O KINDS) (sumZ B KINDS) (atZ rs s)) ∙ ap (λ t. t +ℤ atZ rs s) (sym (sumZ_both O B KINDS))

pos_total : (f : ℕ → ℕ) (n : ℕ) → pos (total (table f n)) ≡ sumZ (λ s. pos (f s)) n
unfolding table total sumZ
pos_total f zero = refl
pos_total f (suc n) =
    let one : total (table f n ++ (f n ∷ [])) ≡ total (table f n) + f n = omega (arith, total_append (table f n) (f n ∷ [])) in
    ap pos one ∙ ap (λ t. t +ℤ pos (f n)) (pos_total f n)

module _ (d : PointDay) (z : Sized d) (c : none_below d.consumption ≡ true) (l : none_below d.losses ≡ true) where
  pub whole_is : (s : ℕ) → s < USERS → whole (user_at d s) ≡ whole_at d.consumption d.losses d.balance d.revision s
  unfolding user_at
  whole_is s m =
      let C : ℕ → ℤ = λ k. atZ d.consumption (KINDS * s + k) in
      let L : ℕ → ℤ = λ k. atZ d.losses (KINDS * s + k) in
      let B : ℕ → ℤ = λ k. atZ d.balance (KINDS * s + k) in
      let r = atZ d.revision s in
      ap₂ ◌+ℤ◌
      (ap₂ ◌+ℤ◌ (kinds_sizes d.consumption s c ∙ kinds_sum d.consumption s (omega (arith, z.consumption))) (kinds_sizes d.losses s l ∙ kinds_sum d.losses s (omega (arith, z.losses))))
      (ap (λ t. t +ℤ r) (kinds_sum d.balance s (omega (arith, z.balance))))
      ∙ sym (+ℤ_assoc (sumZ C KINDS +ℤ sumZ L KINDS) (sumZ B KINDS) r)
      ∙ ap (λ t. t +ℤ r) (sym (sumZ_both (λ k. C k +ℤ L k) B KINDS ∙ ap (λ t. t +ℤ sumZ B KINDS) (sumZ_both C L KINDS)))

  pub wholes_are : d.count ≤ USERS → all_whole (read d).users ≡ sumZ (whole_at d.consumption d.losses d.balance d.revision) d.count
  unfolding read
  wholes_are m =
      ap totalZ (map_table whole (user_at d) d.count)
      ∙ totalZ_table (λ s. whole (user_at d s)) d.count
      ∙ sumZ_eq (λ s. whole (user_at d s)) (whole_at d.consumption d.losses d.balance d.revision) d.count (λ i q. whole_is i (omega arith))

  offtake_slot : (s : ℕ) → s < USERS → pos (offtake (user_at d s)) ≡ offtake_at d.consumption d.losses s
  unfolding user_at
  offtake_slot s m =
      ap₂ ◌+ℤ◌ (kinds_sizes d.consumption s c ∙ kinds_sum d.consumption s (omega (arith, z.consumption))) (kinds_sizes d.losses s l ∙ kinds_sum d.losses s (omega (arith, z.losses)))
      ∙ sym (sumZ_both (λ k. atZ d.consumption (KINDS * s + k)) (λ k. atZ d.losses (KINDS * s + k)) KINDS)

  pub offtakes_are : d.count ≤ USERS → sumZ (offtake_at d.consumption d.losses) d.count ≡ pos (all_offtake (read d).users)
  unfolding read
  offtakes_are m =
      sym (ap (λ t. pos (total t)) (map_table offtake (user_at d) d.count)
      ∙ pos_total (λ s. offtake (user_at d s)) d.count
      ∙ sumZ_eq (λ s. pos (offtake (user_at d s))) (offtake_at d.consumption d.losses) d.count (λ i q. offtake_slot i (omega arith)))
