-- The figures of the day that a book describes are the book's: net, sums, whole amounts, weights. Assumes nothing.
use mathlib.Core.Path.{◌≡◌, refl, sym, ap, ap₂, ◌∙◌}
use mathlib.Core.Bool.{Bool, true, false, not}
use mathlib.Core.List.{List, [], ◌∷◌, map, zip_with}
use Prim.Native.Nat.{ℕ, zero, suc, ◌-◌, ◌≤◌}
use native.Mathlib.Omega.{arith}
use lib.Dec.{leb, eqb, leb-suc-suc, leb-zero, eqb-suc-zero}
use lib.IntN.{ℤ, pos, negsuc, ◌+ℤ◌, ◌-ℤ◌, +ℤ_assoc}
use lib.ListN.{length}
use lib.Signed.{le_z}
use borrow.Author.Tests.{leb-true, le-ltb}
use Rattle.numbers.specs.Sums.{pick, total, totalZ}
use Rattle.numbers.specs.Lists.{both, every, has}
use Rattle.numbers.specs.Amounts.{is_negative}
use Rattle.numbers.proofs.Lists.{both_snd, both_end, map_map, map_eq}
use Rattle.point_day.specs.Limits.{LIMIT, AMOUNT}
use Rattle.point_day.specs.Day as day
use Rattle.point_day.specs.Day.{User, numbers, all_offtake, some, no_more, too_large, measurement_right}
use Rattle.point_day.specs.Calls.{by_basis, none_in_2_to_5, of_2_to_5, or_kind_1, negative, day_balance}
use Rattle.point_day.specs.declared.Measurement.{Measurement}
use Rattle.day_book.specs.Book.{Book, kinds, kinds_2_to_5, net_of, net, offtake, offtake_of, point_sum, whole, to_balance, weighing}
use Rattle.day_book.specs.Book.{user_weight, kind_weight, liesZ, some_negative, some_too_large}
use Rattle.day_book.specs.Described.{user_of, day_of}
use Rattle.std.specs.Prelude.{Option, None, Some}

-- ---- tests of amounts

-- "in size": −m to m
pub in_size : (k : ℕ) (z : ℤ) → liesZ (negsuc k) (pos (suc k)) z ≡ no_more (suc k) z
in_size k (pos n) = refl
in_size k (negsuc n) = both_end (leb n k) ∙ sym (leb-suc-suc n k)

not_below : (z : ℤ) → le_z (pos 0) z ≡ not (is_negative z)
not_below (pos n) = leb-zero n
not_below (negsuc n) = refl

pub every_eq : {A : Type 0} (p q : A → Bool) → ((x : A) → p x ≡ q x) → (xs : List A) → every p xs ≡ every q xs
unfolding every
every_eq p q e [] = refl
every_eq p q e (x ∷ xs) = ap₂ both (e x) (every_eq p q e xs)

pub negative_is : (zs : List ℤ) → some_negative zs ≡ negative zs
negative_is zs = ap not (every_eq (le_z (pos 0)) (λ z. not (is_negative z)) not_below zs)

every_map : {A B : Type 0} (p : B → Bool) (f : A → B) (xs : List A) → every p (map f xs) ≡ every (λ x. p (f x)) xs
unfolding every
every_map p f [] = refl
every_map p f (x ∷ xs) = ap (both (p (f x))) (every_map p f xs)

-- ---- some element

pub some_is : {A : Type 0} (xs : List A) → some xs ≡ not (eqb (length xs) 0)
some_is [] = refl
some_is (x ∷ xs) = ap not (sym (eqb-suc-zero (length xs)))

-- ---- net

minus : (a c : ℕ) → c ≤ a → pos a -ℤ pos c ≡ pos (a - c)
minus a zero l = ap pos (omega arith)
minus a (suc c) l = rw (le-ltb a (suc c) l)

pub net_is : (m : Option Measurement) → measurement_right m ≡ true → net_of m ≡ day.net_of m
net_is None h = refl
net_is (Some m) h = minus m.emission m.downstream (leb-true m.downstream m.emission (both_snd (leb m.emission LIMIT) _ h))

-- ---- one user

module _ (b : Book) (n : ℕ) where
  pub offtake_is : day.offtake (user_of b n) ≡ offtake_of kinds b n
  unfolding total
  offtake_is = omega arith

  pub whole_is : day.whole (user_of b n) ≡ whole b n
  unfolding whole
  whole_is =
      sym (+ℤ_assoc (pos (day.offtake (user_of b n))) (totalZ (map (b.balance n) kinds)) (b.revision n))
      ∙ ap (λ m. (pos m +ℤ totalZ (map (b.balance n) kinds)) +ℤ b.revision n) offtake_is

  is_2_to_5 : total (of_2_to_5 (user_of b n)) ≡ offtake_of kinds_2_to_5 b n
  unfolding total zip_with
  is_2_to_5 = omega arith

  basis_is : (p : Bool) → total (by_basis p (user_of b n)) ≡ offtake_of (pick p kinds kinds_2_to_5) b n
  basis_is true = unfold total zip_with in refl
  basis_is false = is_2_to_5

  -- "if those are all zero, kind 1's proportion is the whole": the weights of the kinds, if q, where the kinds ks weigh
  abbrev weights : Bool → List ℕ → List ℕ
  weights q ks = map (λ kind. pick q (pick (eqb kind 1) 1 0) (pick (has kind ks) (offtake b n kind) 0)) kinds

  by_kind : (p q : Bool) → pick q (1 ∷ 0 ∷ 0 ∷ 0 ∷ 0 ∷ []) (by_basis p (user_of b n)) ≡ weights q (pick p kinds kinds_2_to_5)
  unfolding has zip_with
  by_kind p true = refl
  by_kind true false = refl
  by_kind false false = refl

-- ---- all users

module _ (b : Book) where
  pub numbers_is : numbers (day_of b).users ≡ b.users
  unfolding day_of
  numbers_is = go b.users
    where
      go : (ns : List ℕ) → numbers (map (user_of b) ns) ≡ ns
      go [] = refl
      go (n ∷ ns) = ap (λ t. n ∷ t) (go ns)

  -- what is the book's of each user
  pub of_each : {A : Type 0} (f : User → A) (g : ℕ → A) → ((n : ℕ) → f (user_of b n) ≡ g n) → map f (day_of b).users ≡ map g b.users
  unfolding day_of
  of_each f g e = map_map f (user_of b) b.users ∙ map_eq _ g e b.users

  pub sum_is : all_offtake (day_of b).users ≡ point_sum b
  sum_is = ap total (of_each day.offtake (offtake_of kinds b) (offtake_is b))

  pub wholes_are : map day.whole (day_of b).users ≡ map (whole b) b.users
  wholes_are = of_each day.whole (whole b) (whole_is b)

  pub too_large_is : too_large (day_of b).users ≡ some_too_large b
  unfolding day_of
  too_large_is =
      ap not
      (every_map (λ u. no_more AMOUNT (day.whole u)) (user_of b) b.users
      ∙ every_eq _ _ (λ n. ap (no_more AMOUNT) (whole_is b n) ∙ sym (in_size 1999999999 (whole b n))) b.users)

  -- ---- the weights of allot

  abbrev all : Bool
  all = none_in_2_to_5 (day_of b).users

  pub weighing_is : weighing b ≡ pick all kinds kinds_2_to_5
  unfolding weighing
  weighing_is =
      ap (λ m. pick (eqb m 0) kinds kinds_2_to_5)
      (sym (ap total (of_each (λ v. total (of_2_to_5 v)) (offtake_of kinds_2_to_5 b) (is_2_to_5 b))))

  pub user_weight_is : (n : ℕ) → total (by_basis all (user_of b n)) ≡ user_weight b n
  user_weight_is n = basis_is b n all ∙ ap (λ ks. offtake_of ks b n) (sym weighing_is)

  pub kind_weights_are : (n : ℕ) → or_kind_1 (by_basis all (user_of b n)) ≡ map (kind_weight b n) kinds
  unfolding kind_weight
  kind_weights_are n =
      ap (λ m. pick (eqb m 0) (1 ∷ 0 ∷ 0 ∷ 0 ∷ 0 ∷ []) (by_basis all (user_of b n))) (user_weight_is n)
      ∙ by_kind b n all (eqb (user_weight b n) 0)
      ∙ ap (weights b n (eqb (user_weight b n) 0)) (sym weighing_is)

  module _ (m : measurement_right b.measurement ≡ true) where
    pub net_day : day.net (day_of b) ≡ net b
    unfolding day_of
    net_day = sym (net_is b.measurement m)

    pub balance_is : day_balance (day_of b) ≡ to_balance b
    balance_is = ap₂ (λ z n. z -ℤ pos n) net_day sum_is
