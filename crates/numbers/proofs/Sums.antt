-- Laws of sums and tables. Assumes nothing.
use mathlib.Core.Path.{◌≡◌, refl, sym, ap, ap₂, ◌∙◌}
use mathlib.Core.Bool.{Bool, true, false}
use mathlib.Core.Logic.{⊎_elim, ◌⊎◌, inl, inr}
use mathlib.Core.List.{List, [], ◌∷◌, ◌++◌}
use Prim.Native.Nat.{ℕ, zero, suc, ◌+◌, ◌*◌, ◌≤◌, ◌<◌}
use native.Mathlib.Omega.{arith}
use native.Mathlib.Nat.{mul-add, mul-zero, le_of_eq}
use native.Mathlib.Numerals.{add-one}
use lib.Dec.{ltb}
use lib.IntN.{ℤ, pos, ◌+ℤ◌, +ℤ_assoc, +ℤ_comm, +ℤ_idl}
use lib.ListN.{length, get_or, take, drop, set, length-append, get_or-append}
use lib.Seq.{get_or_at, drop_at, take-suc, take-length}
use borrow.Author.Tests.{ltb-true, ltb-false}
use Rattle.numbers.specs.Sums.{bit, sum, sumZ, table, at, atZ, total, totalZ}

-- case analysis
pub cases : (p : Bool) → (p ≡ true) ⊎ (p ≡ false)
cases true = inl refl
cases false = inr refl

pub lt_or_ge : (a b : ℕ) → (a < b) ⊎ (b ≤ a)
lt_or_ge a b = ⊎_elim (λ t. inl (ltb-true a b t)) (λ t. inr (ltb-false a b t)) (cases (ltb a b))

pub sum_eq : (f g : ℕ → ℕ) (n : ℕ) → ((i : ℕ) → i < n → f i ≡ g i) → sum f n ≡ sum g n
unfolding sum
sum_eq f g zero h = refl
sum_eq f g (suc n) h = ap₂ ◌+◌ (sum_eq f g n (λ i l. h i (omega arith))) (h n (omega arith))

pub sum_ones : (n : ℕ) → sum (λ i. 1) n ≡ n
unfolding sum
sum_ones zero = refl
sum_ones (suc n) = omega (arith, sum_ones n)

pub sum_le : (f g : ℕ → ℕ) (n : ℕ) → ((i : ℕ) → i < n → f i ≤ g i) → sum f n ≤ sum g n
unfolding sum
sum_le f g zero h = omega arith
sum_le f g (suc n) h = omega (arith, sum_le f g n (λ i l. h i (omega arith)), h n (omega arith))

pub sum_lt : (f g : ℕ → ℕ) (n : ℕ) → ((i : ℕ) → i < n → f i ≤ g i) → (k : ℕ) → k < n → f k < g k → sum f n < sum g n
unfolding sum
sum_lt f g zero h k l s = omega arith
sum_lt f g (suc n) h k l s = ⊎_elim (λ t. omega (arith, sum_lt f g n (λ i l. h i (omega arith)) k t s, h n (omega arith))) (λ e. omega (arith, sum_le f g n (λ i l. h i (omega arith)), ap f (eq l e), ap g (eq l e))) (lt_or_ge k n)
  where
    eq : k < suc n → n ≤ k → k ≡ n
    eq a b = omega arith

pub sum_add : (f g : ℕ → ℕ) (n : ℕ) → sum (λ i. f i + g i) n ≡ sum f n + sum g n
unfolding sum
sum_add f g zero = refl
sum_add f g (suc n) = omega (arith, sum_add f g n)

pub sum_mul : (c : ℕ) (f : ℕ → ℕ) (n : ℕ) → sum (λ i. c * f i) n ≡ c * sum f n
unfolding sum
sum_mul c f zero = sym (mul-zero c)
sum_mul c f (suc n) = omega (arith, sum_mul c f n, mul-add c (sum f n) (f n))

-- bits

pub bit_le : (p q : Bool) → (p ≡ true → q ≡ true) → bit p ≤ bit q
bit_le true q h = omega (arith, ap bit (h refl))
bit_le false q h = omega arith

pub bit_one : (p : Bool) → bit p ≤ 1
bit_one true = omega arith
bit_one false = omega arith

pub bit_small : (p : Bool) {x : ℕ} → x ≡ bit p → x ≤ 1
bit_small p e = omega (arith, bit_one p)

pub bits_le : (p : ℕ → Bool) (n : ℕ) → sum (λ i. bit (p i)) n ≤ n
unfolding sum
bits_le p zero = omega arith
bits_le p (suc n) = omega (arith, bits_le p n, bit_one (p n))

-- tables

pub length_table : {A : Type 0} (f : ℕ → A) (n : ℕ) → length (table f n) ≡ n
unfolding table
length_table f zero = refl
length_table f (suc n) = simp length-append (omega (arith, length_table f n))

pub getD_table : {A : Type 0} (f : ℕ → A) (n i : ℕ) (x : A) → i < n → get_or (table f n) i x ≡ f i
unfolding table
getD_table f zero i x l = absurd (omega arith)
getD_table f (suc n) i x l =
    ⊎_elim
    (λ h. get_or-append (table f n) (f n ∷ []) x i (omega (arith, length_table f n)) ∙ getD_table f n i x h)
    (λ h. let e : n ≡ i = omega arith in get_or_at (table f n) (f n) [] x i (omega (arith, length_table f n)) ∙ ap f e)
    (lt_or_ge i n)

pub at_table : (f : ℕ → ℕ) (n i : ℕ) → i < n → at (table f n) i ≡ f i
at_table f n i l = getD_table f n i 0 l

-- the steps of a loop

pub sum_none : (f : ℕ → ℕ) → 0 ≡ sum f 0
unfolding sum
sum_none f = refl

pub sum_more : (f : ℕ → ℕ) (i : ℕ) → sum f (i + 1) ≡ sum f i + f i
unfolding sum
sum_more f i = rw add-one

pub sum_mono : (f : ℕ → ℕ) (i n : ℕ) → i ≤ n → sum f i ≤ sum f n
unfolding sum
sum_mono f i zero h = let e : i ≡ 0 = omega arith in le_of_eq (ap (sum f) e)
sum_mono f i (suc n) h =
    ⊎_elim (λ l. omega (arith, sum_mono f i n (omega arith))) (λ l. let e : i ≡ suc n = omega arith in le_of_eq (ap (sum f) e)) (lt_or_ge i (suc n))

pub sum_one : (f : ℕ → ℕ) (n i : ℕ) → i < n → f i ≤ sum f n
sum_one f n i h = omega (arith, sum_more f i, sum_mono f (i + 1) n (omega arith))

pub table_eq : (f g : ℕ → ℕ) (n : ℕ) → ((i : ℕ) → i < n → f i ≡ g i) → table f n ≡ table g n
unfolding table
table_eq f g zero h = refl
table_eq f g (suc n) h = ap₂ (λ s x. s ++ (x ∷ [])) (table_eq f g n (λ i l. h i (omega arith))) (h n (omega arith))

-- a table, and a list after it
pub at_front : (f : ℕ → ℕ) (n : ℕ) (d : List ℕ) (i : ℕ) → i < n → at (table f n ++ d) i ≡ f i
at_front f n d i l = get_or-append (table f n) d 0 i (omega (arith, length_table f n)) ∙ at_table f n i l

pub drop_front : (f : ℕ → ℕ) (n : ℕ) (d : List ℕ) → drop n (table f n ++ d) ≡ d
drop_front f n d = drop_at (table f n) d n (length_table f n)

-- ---- sums of lists

sum_cons : (f : ℕ → ℕ) (n : ℕ) → sum f (suc n) ≡ f 0 + sum (λ i. f (suc i)) n
unfolding sum
sum_cons f zero = omega arith
sum_cons f (suc n) = omega (arith, sum_cons f n)

-- the sum of a list is the sum over its places
pub total_sum : (xs : List ℕ) → total xs ≡ sum (at xs) (length xs)
unfolding total sum
total_sum [] = refl
total_sum (x ∷ xs) = ap (λ t. x + t) (total_sum xs) ∙ sym (sum_cons (at (x ∷ xs)) (length xs))

pub total_table : (f : ℕ → ℕ) (n : ℕ) → total (table f n) ≡ sum f n
total_table f n = total_sum (table f n) ∙ rw (length_table f n) (sum_eq (at (table f n)) f n (at_table f n))

pub total_append : (xs ys : List ℕ) → total (xs ++ ys) ≡ total xs + total ys
unfolding total
total_append [] ys = omega arith
total_append (x ∷ xs) ys = omega (arith, total_append xs ys)

-- x more at one place
pub total_set : (xs : List ℕ) (i x : ℕ) → i < length xs → total (set xs i (get_or xs i 0 + x)) ≡ total xs + x
unfolding total
total_set [] i x l = absurd (omega arith)
total_set (y ∷ xs) zero x l = omega arith
total_set (y ∷ xs) (suc i) x l = omega (arith, total_set xs i x (omega arith))

pub at_total : (xs : List ℕ) (i : ℕ) → at xs i ≤ total xs
unfolding total
at_total [] i = omega arith
at_total (x ∷ xs) zero = omega arith
at_total (x ∷ xs) (suc i) = omega (arith, at_total xs i)

-- ---- over ℤ

pub sumZ_more : (f : ℕ → ℤ) (i : ℕ) → sumZ f (i + 1) ≡ sumZ f i +ℤ f i
unfolding sumZ
sumZ_more f i = rw add-one

pub sumZ_eq : (f g : ℕ → ℤ) (n : ℕ) → ((i : ℕ) → i < n → f i ≡ g i) → sumZ f n ≡ sumZ g n
unfolding sumZ
sumZ_eq f g zero h = refl
sumZ_eq f g (suc n) h = ap₂ ◌+ℤ◌ (sumZ_eq f g n (λ i l. h i (omega arith))) (h n (omega arith))

sumZ_cons : (f : ℕ → ℤ) (n : ℕ) → sumZ f (suc n) ≡ f 0 +ℤ sumZ (λ i. f (suc i)) n
unfolding sumZ
sumZ_cons f zero = +ℤ_comm (pos 0) (f 0)
sumZ_cons f (suc n) = ap (λ t. t +ℤ f (suc n)) (sumZ_cons f n) ∙ +ℤ_assoc (f 0) (sumZ (λ i. f (suc i)) n) (f (suc n))

pub totalZ_sum : (xs : List ℤ) → totalZ xs ≡ sumZ (atZ xs) (length xs)
unfolding totalZ sumZ
totalZ_sum [] = refl
totalZ_sum (x ∷ xs) = ap (λ t. x +ℤ t) (totalZ_sum xs) ∙ sym (sumZ_cons (atZ (x ∷ xs)) (length xs))

pub totalZ_table : (f : ℕ → ℤ) (n : ℕ) → totalZ (table f n) ≡ sumZ f n
totalZ_table f n = totalZ_sum (table f n) ∙ rw (length_table f n) (sumZ_eq (atZ (table f n)) f n (λ i l. getD_table f n i (pos 0) l))

pub totalZ_append : (xs ys : List ℤ) → totalZ (xs ++ ys) ≡ totalZ xs +ℤ totalZ ys
unfolding totalZ
totalZ_append [] ys = sym (+ℤ_idl (totalZ ys))
totalZ_append (x ∷ xs) ys = ap (λ z. x +ℤ z) (totalZ_append xs ys) ∙ sym (+ℤ_assoc x (totalZ xs) (totalZ ys))

pub table_same : {A : Type 0} (f g : ℕ → A) → ((i : ℕ) → f i ≡ g i) → (n : ℕ) → table f n ≡ table g n
unfolding table
table_same f g h zero = refl
table_same f g h (suc n) = ap₂ (λ t x. t ++ (x ∷ [])) (table_same f g h n) (h n)

-- the first n elements are the table of them
pub table_take : {A : Type 0} (x : A) (xs : List A) (n : ℕ) → n ≤ length xs → table (λ i. get_or xs i x) n ≡ take n xs
unfolding table
table_take x xs zero l = refl
table_take x xs (suc n) l = ap (λ t. t ++ (get_or xs n x ∷ [])) (table_take x xs n (omega arith)) ∙ sym (take-suc xs n x (omega arith))

pub table_all : {A : Type 0} (x : A) (xs : List A) → table (λ i. get_or xs i x) (length xs) ≡ xs
table_all x xs = table_take x xs (length xs) (omega arith) ∙ take-length xs
