-- Months: their lengths, their starts, and the month that a gas day lies in. Assumes nothing.
use mathlib.Core.Path.{◌≡◌, refl, ap, ap₂, ◌∙◌}
use mathlib.Core.Bool.{Bool, true, false}
use mathlib.Core.Logic.{⊎_elim}
use mathlib.Core.List.{[], ◌∷◌}
use Prim.Native.Nat.{ℕ, zero, suc, ◌+◌, ◌*◌, ◌/◌, ◌%◌, ◌≤◌, ◌<◌}
use native.Mathlib.Omega.{arith}
use lib.Dec.{eqb}
use borrow.Author.Tests.{lt-ltb, le-ltb}
use Rattle.numbers.specs.Sums.{pick, sum}
use Rattle.numbers.specs.Lists.{has}
use Rattle.numbers.proofs.Sums.{lt_or_ge, sum_mono}
use Rattle.calendar.specs.Days.{LAST_DAY}
use Rattle.months.specs.Months.{MONTHS, FIRST_YEAR, month_days, year_of, number_of, length_of, start_of, month_at, month_from, month_of}
use Rattle.months.specs.declared.Month.{Month}

-- ---- lengths

-- a month's days by the remainder of its year by 4
by_rest : ℕ → ℕ → ℕ
by_rest r m = pick (eqb m 2) (pick (eqb r 0) 29 28) (pick (has m (4 ∷ 6 ∷ 9 ∷ 11 ∷ [])) 30 31)

pub record Length (n : ℕ) : Type 0 where
  pub least : 28 ≤ n
  pub most : n ≤ 31

length_cases : (a b c : Bool) → Length (pick a (pick b 29 28) (pick c 30 31))
length_cases true true c = record { least = omega arith; most = omega arith }
length_cases true false c = record { least = omega arith; most = omega arith }
length_cases false b true = record { least = omega arith; most = omega arith }
length_cases false b false = record { least = omega arith; most = omega arith }

pub month_length : (year month : ℕ) → Length (month_days year month)
unfolding month_days
month_length year month = length_cases (eqb month 2) (eqb (year % 4) 0) (has month (4 ∷ 6 ∷ 9 ∷ 11 ∷ []))

pub some_length : (n : ℕ) → Length (length_of n)
unfolding length_of
some_length n = month_length (year_of n) (number_of n)

-- the lengths come round every four years
length_cycle : (n : ℕ) → length_of (n + 48) ≡ length_of n
unfolding length_of month_days by_rest
length_cycle n =
    let y : (FIRST_YEAR + (n + 48) / 12) % 4 ≡ (FIRST_YEAR + n / 12) % 4 = omega arith in
    let m : 1 + (n + 48) % 12 ≡ 1 + n % 12 = omega arith in
    ap₂ by_rest y m

-- ---- starts

start_cycle : (n : ℕ) → start_of (n + 48) ≡ start_of n + 1461
unfolding start_of sum
start_cycle zero = unfold length_of month_days has in refl
start_cycle (suc n) =
    let e : suc n + 48 ≡ suc (n + 48) = omega arith in
    ap (sum length_of) e ∙ ap₂ ◌+◌ (start_cycle n) (length_cycle n) ∙ omega arith

pub start_cycles : (k : ℕ) → start_of (k * 48) ≡ k * 1461
unfolding start_of sum
start_cycles zero = refl
start_cycles (suc k) =
    let e : suc k * 48 ≡ k * 48 + 48 = omega arith in
    ap (sum length_of) e ∙ start_cycle (k * 48) ∙ omega (arith, start_cycles k)

pub start_next : (n : ℕ) → start_of (n + 1) ≡ start_of n + length_of n
unfolding start_of sum
start_next n = let e : n + 1 ≡ suc n = omega arith in ap (sum length_of) e

start_suc : (n : ℕ) → start_of (suc n) ≡ start_of n + length_of n
unfolding start_of sum
start_suc n = refl

start_zero : start_of 0 ≡ 0
unfolding start_of sum
start_zero = refl

start_mono : (m n : ℕ) → m ≤ n → start_of m ≤ start_of n
unfolding start_of
start_mono m n l = sum_mono length_of m n l

pub start_end : start_of MONTHS ≡ LAST_DAY + 1
start_end = start_cycles 21

-- a month that starts on a gas day is one of the 1,008
pub is_month : (n d : ℕ) → start_of n ≤ d → d ≤ LAST_DAY → n < MONTHS
is_month n d s h =
    ⊎_elim (λ l. l) (λ l. absurd (omega (arith, start_mono MONTHS n l, start_end))) (lt_or_ge n MONTHS)

-- ---- the month of a day

-- day d lies in month n
pub record In (n d : ℕ) : Type 0 where
  pub after : start_of n ≤ d
  pub before : d < start_of n + length_of n

-- month m, at or before n, ends after d only if it is n
not_before : (m n d : ℕ) → m ≤ n → In n d → d < start_of m + length_of m → m ≡ n
not_before m n d l h q = ⊎_elim (λ r. absurd (omega (arith, h.after, start_mono (m + 1) n (omega arith), start_next m))) (λ r. omega arith) (lt_or_ge m n)

-- month m, at or before n, ends by d only if it is before n
ends_before : (m n d : ℕ) → m ≤ n → In n d → start_of m + length_of m ≤ d → m < n
ends_before m n d l h q = ⊎_elim (λ r. r) (λ r. absurd (contra r)) (lt_or_ge m n)
  where
    contra : n ≤ m → ⊥
    contra r = let e : m ≡ n = omega arith in omega (arith, h.before, ap (λ i. start_of i + length_of i) e)

found : (k m n d : ℕ) → m ≤ n → n ≤ m + k → In n d → month_from k m (start_of m) d ≡ month_at n (start_of n)
unfolding month_from
found zero m n d l u h = let e : m ≡ n = omega arith in ap (λ i. month_at i (start_of i)) e
found (suc k) m n d l u h =
    ⊎_elim
    (λ q. rw (lt-ltb d (start_of m + length_of m) q) (ap (λ i. month_at i (start_of i)) (not_before m n d l h q)))
    (λ q. rw (le-ltb d (start_of m + length_of m) q, ← start_suc m) (found k (suc m) n d (ends_before m n d l h q) (omega arith) h))
    (lt_or_ge d (start_of m + length_of m))

pub month_is : (n d : ℕ) → d ≤ LAST_DAY → In n d → month_of d ≡ month_at n (start_of n)
unfolding month_of
month_is n d h i = rw start_zero at (found MONTHS 0 n d (omega arith) (omega (arith, is_month n d i.after h)) i)

-- m is the month of a gas day d
pub record Holds (d : ℕ) (m : Month) : Type 0 where
  pub from : m.first ≤ d
  pub to : d < m.first + m.days
  pub long : Length m.days
  pub year : FIRST_YEAR ≤ m.year

some_month : (k m d : ℕ) → start_of m ≤ d → d < start_of (m + k) → Holds d (month_from k m (start_of m) d)
unfolding month_from
some_month zero m d l u = let e : m + 0 ≡ m = omega arith in absurd (omega (arith, ap start_of e))
some_month (suc k) m d l u = ⊎_elim here (λ q. later q (some_month k (suc m) d)) (lt_or_ge d (start_of m + length_of m))
  where
    here : d < start_of m + length_of m → Holds d (month_from (suc k) m (start_of m) d)
    here q = rw (lt-ltb d (start_of m + length_of m) q) (record { from = l; to = q; long = some_length m; year = omega arith })

    later : start_of m + length_of m ≤ d → (start_of (suc m) ≤ d → d < start_of (suc m + k) → Holds d (month_from k (suc m) (start_of (suc m)) d))
        → Holds d (month_from (suc k) m (start_of m) d)
    later q rest =
        let e : m + suc k ≡ suc m + k = omega arith in
        rw (le-ltb d (start_of m + length_of m) q, ← start_suc m) (rest (omega (arith, start_suc m)) (omega (arith, ap start_of e)))

pub month_holds : (d : ℕ) → d ≤ LAST_DAY → Holds d (month_of d)
unfolding month_of
month_holds d h = rw start_zero at (some_month MONTHS 0 d (omega (arith, start_zero)) (omega (arith, start_end)))
