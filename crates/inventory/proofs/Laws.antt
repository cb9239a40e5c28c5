-- Each user and kind not all zero has exactly one row. Assumes nothing.
use mathlib.Core.Path.{◌≡◌, refl, sym, ap, ◌∙◌}
use mathlib.Core.Bool.{Bool, true, false, not}
use mathlib.Core.List.{List, [], ◌∷◌, map}
use Prim.Native.Nat.{ℕ, zero, suc, ◌+◌, ◌≤◌, ◌<◌}
use native.Mathlib.Omega.{arith}
use lib.Dec.{eqb}
use lib.ListN.{length, get_or, length-map, get_or-map}
use borrow.Author.Tests.{eq-eqb, ne_eqb, eqb-false, not-true}
use Rattle.numbers.specs.Sums.{bit, pick, total}
use Rattle.numbers.specs.Lists.{both, has, distinct, flat}
use Rattle.numbers.proofs.Sums.{total_append}
use Rattle.numbers.proofs.Lists.{true≢false, map_append, both_fst, both_snd, either_fst, either_snd, has_at, both_end, both_none}
use Rattle.point_day.specs.Limits.{KINDS}
use Rattle.point_day.specs.Day.{User, numbers, empty_user}
use Rattle.point_day.specs.Calls.{kinds}
use Rattle.point_day.specs.Struct.{read, taken}
use Rattle.point_day.specs.declared.PointDay.{PointDay}
use Rattle.point_day.proofs.Taken.{taken_facts}
use Rattle.inventory.specs.Inventory.{Row, row_of, some_amount, those, rows, Reordered, none, keep, swap, next}
use Rattle.inventory.specs.Laws.{is_of, user, ExactlyOnce}

-- ---- an order has of every sort as many

module _ {A : Type 0} (p : A → Bool) where
  one_more : (x : A) (xs : List A) → length (those p (x ∷ xs)) ≡ bit (p x) + length (those p xs)
  unfolding those
  one_more x xs = go (p x)
    where
      go : (b : Bool) → length (pick b (x ∷ those p xs) (those p xs)) ≡ bit b + length (those p xs)
      go true = omega arith
      go false = omega arith

  sort_many : {xs ys : List A} → Reordered xs ys → length (those p xs) ≡ length (those p ys)
  sort_many none = refl
  sort_many (keep {x} {xs} {ys} r) = omega (arith, one_more x xs, one_more x ys, sort_many r)
  sort_many (swap {x} {y} {xs}) = omega (arith, one_more x (y ∷ xs), one_more y xs, one_more y (x ∷ xs), one_more x xs)
  sort_many (next r s) = sort_many r ∙ sort_many s

all_many : {A : Type 0} {xs ys : List A} → Reordered xs ys → length xs ≡ length ys
all_many none = refl
all_many (keep r) = ap suc (all_many r)
all_many swap = refl
all_many (next r s) = all_many r ∙ all_many s

-- ---- the rows of a user and kind

module _ (u : User) (kind : ℕ) where
  hits : Row → ℕ
  hits r = bit (both (some_amount r) (is_of u kind r))

  hits_are : (rs : List Row) → length (those (is_of u kind) (those some_amount rs)) ≡ total (map hits rs)
  unfolding those total hits
  hits_are [] = refl
  hits_are (r ∷ rs) = go (some_amount r) (hits_are rs)
    where
      go : (b : Bool) → length (those (is_of u kind) (those some_amount rs)) ≡ total (map hits rs)
          → length (those (is_of u kind) (pick b (r ∷ those some_amount rs) (those some_amount rs))) ≡ bit (both b (is_of u kind r)) + total (map hits rs)
      go true h = one_more (is_of u kind) r (those some_amount rs) ∙ omega arith
      go false h = omega arith

  -- another user, or another kind
  no_hit : (v : User) (k : ℕ) → both (eqb v.number u.number) (eqb k kind) ≡ false → hits (row_of v k) ≡ 0
  unfolding hits
  no_hit v k e = rw e (go (some_amount (row_of v k)))
    where
      go : (b : Bool) → bit (both b false) ≡ 0
      go true = refl
      go false = refl

  a_hit : hits (row_of u kind) ≡ bit (some_amount (row_of u kind))
  unfolding hits
  a_hit = rw (eq-eqb u.number u.number refl, eq-eqb kind kind refl) (ap bit (both_end (some_amount (row_of u kind))))

  other_kind : (k : ℕ) → eqb k kind ≡ false → hits (row_of u k) ≡ 0
  other_kind k e = no_hit u k (rw e (both_none (eqb u.number u.number)))

  other_user : (v : User) → (v.number ≡ u.number → ⊥) → (k : ℕ) → hits (row_of v k) ≡ 0
  other_user v h k = no_hit v k (rw (ne_eqb v.number u.number h))

  other_rows : (v : User) → (v.number ≡ u.number → ⊥) → total (map hits (map (row_of v) kinds)) ≡ 0
  unfolding total
  other_rows v h = omega (arith, other_user v h 1, other_user v h 2, other_user v h 3, other_user v h 4, other_user v h 5)

  -- the rows of several users
  split_rows : (v : User) (us : List User) → total (map hits (flat (map (λ w. map (row_of w) kinds) (v ∷ us))))
      ≡ total (map hits (map (row_of v) kinds)) + total (map hits (flat (map (λ w. map (row_of w) kinds) us)))
  unfolding flat
  split_rows v us =
      ap total (map_append hits (map (row_of v) kinds) (flat (map (λ w. map (row_of w) kinds) us)))
      ∙ total_append (map hits (map (row_of v) kinds)) (map hits (flat (map (λ w. map (row_of w) kinds) us)))

  no_rows : (us : List User) → has u.number (numbers us) ≡ false → total (map hits (flat (map (λ w. map (row_of w) kinds) us))) ≡ 0
  unfolding has
  no_rows [] e = unfold flat total in refl
  no_rows (v ∷ us) e =
      split_rows v us
      ∙ omega (arith, other_rows v (λ z. eqb-false u.number v.number (either_fst _ _ e) (sym z)), no_rows us (either_snd (eqb u.number v.number) _ e))

-- the five rows of the user
own_rows : (u : User) (kind : ℕ) → 1 ≤ kind → kind ≤ KINDS → total (map (hits u kind) (map (row_of u) kinds)) ≡ bit (some_amount (row_of u kind))
unfolding total
own_rows u zero l m = absurd (omega arith)
own_rows u (suc zero) l m = omega (arith, a_hit u 1, other_kind u 1 2 refl, other_kind u 1 3 refl, other_kind u 1 4 refl, other_kind u 1 5 refl)
own_rows u (suc (suc zero)) l m = omega (arith, other_kind u 2 1 refl, a_hit u 2, other_kind u 2 3 refl, other_kind u 2 4 refl, other_kind u 2 5 refl)
own_rows u (suc (suc (suc zero))) l m = omega (arith, other_kind u 3 1 refl, other_kind u 3 2 refl, a_hit u 3, other_kind u 3 4 refl, other_kind u 3 5 refl)
own_rows u (suc (suc (suc (suc zero)))) l m = omega (arith, other_kind u 4 1 refl, other_kind u 4 2 refl, other_kind u 4 3 refl, a_hit u 4, other_kind u 4 5 refl)
own_rows u (suc (suc (suc (suc (suc zero))))) l m = omega (arith, other_kind u 5 1 refl, other_kind u 5 2 refl, other_kind u 5 3 refl, other_kind u 5 4 refl, a_hit u 5)
own_rows u (suc (suc (suc (suc (suc (suc n)))))) l m = absurd (omega arith)

number_at : (us : List User) (s : ℕ) → get_or (numbers us) s 0 ≡ (get_or us s (empty_user 0)).number
number_at us s = get_or-map (λ (u : User). u.number) us s (empty_user 0)

one_row : (us : List User) → distinct (numbers us) ≡ true → (s kind : ℕ) → s < length us → 1 ≤ kind → kind ≤ KINDS
    → total (map (hits (get_or us s (empty_user 0)) kind) (flat (map (λ w. map (row_of w) kinds) us))) ≡ bit (some_amount (row_of (get_or us s (empty_user 0)) kind))
unfolding distinct
one_row [] e s kind l m n = absurd (omega arith)
one_row (v ∷ us) e zero kind l m n =
    split_rows v kind v us ∙ omega (arith, own_rows v kind m n, no_rows v kind us (not-true _ (both_fst _ _ e)))
one_row (v ∷ us) e (suc s) kind l m n =
    let u = get_or us s (empty_user 0) in
    split_rows u kind v us
    ∙ omega (
      arith,
      other_rows u kind v (λ z. true≢false (sym (has_at v.number (numbers us) s (omega (arith, length-map us (λ (u : User). u.number))) (number_at us s ∙ sym z)) ∙ not-true _ (both_fst _ _ e))),
      one_row us (both_snd (not (has v.number (numbers us))) _ e) s kind (omega arith) m n,
    )

-- ---- the law

pub exactly_once : (d : PointDay) → taken d ≡ true → ExactlyOnce (read d)
unfolding rows
exactly_once d t = record {
  once = λ listed r s kind l m n.
      sort_many (is_of (user (read d) s) kind) r
      ∙ hits_are (user (read d) s) kind (flat (map (λ w. map (row_of w) kinds) (read d).users))
      ∙ one_row (read d).users (taken_facts d t).apart s kind l m n;
  as_many = λ listed r. all_many r;
}
