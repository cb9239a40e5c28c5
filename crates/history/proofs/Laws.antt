-- Laws of the history: gaps, estimates and own values put anywhere between change neither the mean nor newness, and never enter a mean. Assumes nothing.
use mathlib.Core.Path.{◌≡◌, refl, ap}
use mathlib.Core.Bool.{true}
use mathlib.Core.List.{List, [], ◌∷◌, ◌++◌}
use mathlib.Core.Logic.{⊎_elim}
use Prim.Native.Nat.{ℕ, zero, suc, ◌<◌}
use native.Mathlib.Omega.{arith}
use lib.ListN.{length, get_or, take}
use Rattle.numbers.proofs.Sums.{cases}
use Rattle.numbers.proofs.Lists.{All, all_map}
use Rattle.calendar.specs.DayTypes.{day_type, same_type}
use Rattle.history.specs.History.{MATCHES, Dated, RealReading, real_of, real_readings, matching, last_three, mean_value, is_empty, is_new, real_value}
use Rattle.std.specs.Prelude.{None}
use Rattle.history.specs.declared.Reading.{Reading}
use Rattle.history.specs.declared.Reading.TheVariants.{Nothing, Real, Estimated, Own}

-- a gap, an estimate or the user's own value
abbrev pub NotReal : Dated → Type 0
NotReal x = real_value x.reading ≡ None

-- ---- what stands between

-- what is no real reading has no value
pub not_real : (r : Reading) → ((v : ℕ) → r ≡ Real v → ⊥) → real_value r ≡ None
not_real Nothing h = refl
not_real (Real v) h = absurd (h v refl)
not_real (Estimated v) h = refl
not_real (Own v) h = refl

pub none_real : (d : ℕ) (r : Reading) → real_value r ≡ None → real_of d r ≡ []
none_real d Nothing e = refl
none_real d (Real v) e = cc
none_real d (Estimated v) e = refl
none_real d (Own v) e = refl

without : (zs ys : List Dated) → All NotReal zs → real_readings (zs ++ ys) ≡ real_readings ys
unfolding real_readings
without [] ys h = refl
without (z ∷ zs) ys h = rw (none_real z.day z.reading h.0) (without zs ys h.1)

same_readings : (xs zs ys : List Dated) → All NotReal zs → real_readings (xs ++ (zs ++ ys)) ≡ real_readings (xs ++ ys)
unfolding real_readings
same_readings [] zs ys h = without zs ys h
same_readings (x ∷ xs) zs ys h = ap (λ t. real_of x.day x.reading ++ t) (same_readings xs zs ys h)

-- entries that are not real, put anywhere between, leave the last three readings, their mean and newness as they are
module _ (hs : List ℕ) (d : ℕ) (xs zs ys : List Dated) (h : All NotReal zs) where
  pub same_last_three : last_three hs d (xs ++ (zs ++ ys)) ≡ last_three hs d (xs ++ ys)
  unfolding last_three
  same_last_three = ap (λ ms. take MATCHES (matching hs (day_type hs d) ms)) (same_readings xs zs ys h)

  pub same_mean : mean_value (last_three hs d (xs ++ (zs ++ ys))) ≡ mean_value (last_three hs d (xs ++ ys))
  same_mean = ap mean_value same_last_three

  pub same_new : is_new (xs ++ (zs ++ ys)) ≡ is_new (xs ++ ys)
  unfolding is_new
  same_new = ap is_empty (same_readings xs zs ys h)

-- ---- what enters a mean

-- m is a real entry of the history
pub record IsReal (xs : List Dated) (m : RealReading) : Type 0 where
  pub place : ℕ
  pub inside : place < length xs
  pub entry : get_or xs place (record { day = 0; reading = Nothing }) ≡ record { day = m.day; reading = Real m.value }

-- a match: a real entry of the history, on a day of the gas day's type
pub record IsMatch (hs : List ℕ) (d : ℕ) (xs : List Dated) (m : RealReading) : Type 0 where
  pub real : IsReal xs m
  pub type : same_type (day_type hs m.day) (day_type hs d) ≡ true

later : (x : Dated) (xs : List Dated) (m : RealReading) → IsReal xs m → IsReal (x ∷ xs) m
later x xs m h = record { place = suc h.place; inside = omega (arith, h.inside); entry = h.entry }

with_first : (d : ℕ) (r : Reading) (xs : List Dated) (ms : List RealReading) → All (IsReal xs) ms → All (IsReal (record { day = d; reading = r } ∷ xs)) (real_of d r ++ ms)
with_first d Nothing xs ms h = all_map _ _ (later _ xs) ms h
with_first d (Real v) xs ms h = (record { place = 0; inside = omega arith; entry = refl }, all_map _ _ (later _ xs) ms h)
with_first d (Estimated v) xs ms h = all_map _ _ (later _ xs) ms h
with_first d (Own v) xs ms h = all_map _ _ (later _ xs) ms h

all_real : (xs : List Dated) → All (IsReal xs) (real_readings xs)
unfolding real_readings
all_real [] = tt
all_real (x ∷ xs) = with_first x.day x.reading xs (real_readings xs) (all_real xs)

all_matching : (hs : List ℕ) (d : ℕ) (xs : List Dated) (ms : List RealReading) → All (IsReal xs) ms → All (IsMatch hs d xs) (matching hs (day_type hs d) ms)
unfolding matching
all_matching hs d xs [] h = tt
all_matching hs d xs (m ∷ ms) h =
    ⊎_elim
    (λ e. rw e (record { real = h.0; type = e }, all_matching hs d xs ms h.1))
    (λ e. rw e (all_matching hs d xs ms h.1))
    (cases (same_type (day_type hs m.day) (day_type hs d)))

all_take : {A : Type 0} (P : A → Type 0) (n : ℕ) (xs : List A) → All P xs → All P (take n xs)
all_take P zero xs h = tt
all_take P (suc n) [] h = tt
all_take P (suc n) (x ∷ xs) h = (h.0, all_take P n xs h.1)

-- only real entries on days of the gas day's type enter the mean
pub only_matches : (hs : List ℕ) (d : ℕ) (xs : List Dated) → All (IsMatch hs d xs) (last_three hs d xs)
unfolding last_three
only_matches hs d xs = all_take (IsMatch hs d xs) MATCHES (matching hs (day_type hs d) (real_readings xs)) (all_matching hs d xs (real_readings xs) (all_real xs))
