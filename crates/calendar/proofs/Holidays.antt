-- A list of holidays, place by place: as stated or not, and a day among them or not. Assumes nothing.
use mathlib.Core.Path.{◌≡◌, refl, sym, ap}
use mathlib.Core.Bool.{true}
use mathlib.Core.List.{List, [], ◌∷◌}
use mathlib.Core.Logic.{⊎_elim}
use Prim.Native.Nat.{ℕ, zero, suc, ◌+◌, ◌-◌, ◌≤◌, ◌<◌}
use native.Mathlib.Omega.{arith}
use native.Mathlib.Nat.{le_of_eq}
use lib.Dec.{leb, ltb}
use lib.ListN.{length, drop}
use lib.Seq.{drop-cons}
use borrow.Author.Tests.{le-leb, lt-leb, leb-true, ltb-true}
use Rattle.std.specs.Prelude.{Result, Ok, Err, is_ok}
use Rattle.std.specs.Ordering.{nat_cmp}
use Rattle.std.specs.List.Sorted.{IsBinarySearchResult}
use Rattle.std.proofs.lemmas.List.Sorted.{searched}
use Rattle.numbers.specs.Sums.{at}
use Rattle.numbers.specs.Lists.{both, every, has, rising}
use Rattle.numbers.proofs.Sums.{lt_or_ge}
use Rattle.numbers.proofs.Lists.{has_at, both_fst, both_snd, both_end, both_none, has_none}
use Rattle.calendar.specs.Days.{LAST_DAY, MOST_HOLIDAYS, is_gas_day, holidays_right, calendar_right}

-- ---- a day among the holidays

-- of rising numbers, a later one is higher
pub rising_lt : (hs : List ℕ) → rising hs ≡ true → (i j : ℕ) → i < j → j < length hs → at hs i < at hs j
unfolding rising
rising_lt [] r i j l m = absurd (omega arith)
rising_lt (x ∷ []) r i j l m = absurd (omega arith)
rising_lt (x ∷ (y ∷ ys)) r zero zero l m = absurd (omega arith)
rising_lt (x ∷ (y ∷ ys)) r zero (suc zero) l m = ltb-true x y (both_fst _ _ r)
rising_lt (x ∷ (y ∷ ys)) r zero (suc (suc j)) l m =
    omega (arith, ltb-true x y (both_fst _ _ r), rising_lt (y ∷ ys) (both_snd (ltb x y) _ r) 0 (suc j) (omega arith) (omega arith))
rising_lt (x ∷ (y ∷ ys)) r (suc i) zero l m = absurd (omega arith)
rising_lt (x ∷ (y ∷ ys)) r (suc i) (suc j) l m = rising_lt (y ∷ ys) (both_snd (ltb x y) _ r) i j (omega arith) (omega arith)

pub rising_le : (hs : List ℕ) → rising hs ≡ true → (i j : ℕ) → i ≤ j → j < length hs → at hs i ≤ at hs j
rising_le hs r i j l m = ⊎_elim (λ h. omega (arith, rising_lt hs r i j h m)) (λ h. let e : i ≡ j = omega arith in le_of_eq (ap (at hs) e)) (lt_or_ge i j)

-- what a search by halving finds in numbers that rise
pub searched_has : (d : ℕ) (hs : List ℕ) (r : Result ℕ ℕ) → IsBinarySearchResult (λ y. nat_cmp y d) hs r → rising hs ≡ true → is_ok r ≡ has d hs
searched_has d hs (Ok i) s e =
    let v = searched hs d (Ok i) s (rising_le hs e) in
    sym (has_at d hs i v.0 v.1)
searched_has d hs (Err i) s e =
    let v = searched hs d (Err i) s (rising_le hs e) in
    sym (has_none d hs (λ k l q. ⊎_elim (λ h. omega (arith, v.1 k h)) (λ h. omega (arith, v.2 k h l)) (lt_or_ge k i)))

-- ---- numbers that rise, place by place

pub rises_step : (xs : List ℕ) (i : ℕ) → 0 < i → i < length xs → rising (drop (i - 1) xs) ≡ both (ltb (at xs (i - 1)) (at xs i)) (rising (drop (i + 1 - 1) xs))
unfolding rising
rises_step xs zero p l = absurd (omega arith)
rises_step xs (suc i) p l =
    let before : suc i - 1 ≡ i = omega arith in
    let here : suc i + 1 - 1 ≡ suc i = omega arith in
    rw (before, here, drop-cons xs i 0 (omega arith), drop-cons xs (suc i) 0 l)

pub rises_end : (xs : List ℕ) (i : ℕ) → length xs ≤ i + 1 → rising (drop i xs) ≡ true
unfolding rising
rises_end [] zero l = refl
rises_end [] (suc i) l = refl
rises_end (x ∷ []) zero l = refl
rises_end (x ∷ (y ∷ ys)) zero l = absurd (omega arith)
rises_end (x ∷ xs) (suc i) l = rises_end xs i (omega arith)

-- ---- a list of holidays as stated

-- what is no higher than z is no higher than m if z is not
lower : (x z m : ℕ) → x ≤ z → both (leb x m) (leb z m) ≡ leb z m
lower x z m l =
    ⊎_elim (λ h. rw (lt-leb z m h) (both_none (leb x m))) (λ h. rw (le-leb z m h, le-leb x m (omega arith))) (lt_or_ge m z)

-- rising numbers are no higher than m if the last is not
every_last : (m : ℕ) (xs : List ℕ) (k : ℕ) → suc k ≡ length xs → rising xs ≡ true → every (λ x. leb x m) xs ≡ leb (at xs k) m
unfolding every rising
every_last m [] k e r = absurd (omega arith)
every_last m (x ∷ []) zero e r = both_end (leb x m)
every_last m (x ∷ []) (suc k) e r = absurd (omega arith)
every_last m (x ∷ (y ∷ ys)) zero e r = absurd (omega arith)
every_last m (x ∷ (y ∷ ys)) (suc k) e r =
    let l = rising_lt (x ∷ (y ∷ ys)) r 0 (suc k) (omega arith) (omega arith) in
    rw (every_last m (y ∷ ys) k (omega arith) (both_snd (ltb x y) _ r)) (lower x (at (y ∷ ys) k) m (omega arith))

module _ (hs : List ℕ) where
  pub no_holiday : length hs ≡ 0 → rising hs ≡ true → holidays_right hs ≡ true
  unfolding holidays_right every
  no_holiday e r = rw (le-leb (length hs) MOST_HOLIDAYS (omega arith), r) (none hs e)
    where
      none : (xs : List ℕ) → length xs ≡ 0 → every is_gas_day xs ≡ true
      none [] f = refl
      none (x ∷ xs) f = absurd (omega arith)

  pub by_last : length hs ≤ MOST_HOLIDAYS → rising hs ≡ true → 0 < length hs → holidays_right hs ≡ is_gas_day (at hs (length hs - 1))
  unfolding holidays_right
  by_last h r l = rw (le-leb (length hs) MOST_HOLIDAYS h, r) (every_last LAST_DAY hs (length hs - 1) (omega arith) r)

-- a list as stated rises
pub right_rising : (hs : List ℕ) → holidays_right hs ≡ true → rising hs ≡ true
unfolding holidays_right
right_rising hs e = both_fst _ _ (both_snd (leb (length hs) MOST_HOLIDAYS) _ e)

pub calendar_day : (d : ℕ) (hs : List ℕ) → calendar_right d hs ≡ true → d ≤ LAST_DAY
unfolding calendar_right
calendar_day d hs e = leb-true d LAST_DAY (both_fst _ _ e)

pub calendar_rising : (d : ℕ) (hs : List ℕ) → calendar_right d hs ≡ true → rising hs ≡ true
unfolding calendar_right
calendar_rising d hs e = right_rising hs (both_snd (is_gas_day d) _ e)
