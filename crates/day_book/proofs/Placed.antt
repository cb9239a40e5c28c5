-- The arrays of the point-day, place by place. Assumes nothing.
use mathlib.Core.Path.{◌≡◌, refl, ap, ◌∙◌}
use mathlib.Core.Bool.{true}
use mathlib.Core.List.{List, [], ◌∷◌, ◌++◌, map}
use Prim.Native.Nat.{ℕ, zero, suc, ◌-◌, ◌*◌, ◌≤◌, ◌<◌}
use native.Mathlib.Omega.{arith}
use lib.IntN.{ℤ, pos}
use lib.ListN.{length, get_or, replicate, length-append, length-replicate, length-map, get_or-append}
use Rattle.numbers.specs.Sums.{at, atZ}
use Rattle.numbers.specs.Lists.{has, flat}
use Rattle.numbers.proofs.Lists.{All, all_map}
use Rattle.point_day.specs.Limits.{USERS, CELLS}
use Rattle.point_day.specs.Day.{User}
use Rattle.point_day.specs.Struct.{padded, laid}
use Rattle.point_day.proofs.Arrays.{Full, nobody, length_flat}
use Rattle.point_day.proofs.Padding.{at_flat}
use Rattle.point_day.proofs.Each.{map_at}
use Rattle.point_day.proofs.Good.{all_full}
use Rattle.day_book.specs.Book.{Book, kinds, consumption, losses}
use Rattle.day_book.specs.Arrays.{place, Holds}
use Rattle.day_book.specs.Described.{user_of, day_of}
use Rattle.day_book.proofs.Parties.{all_has}
use Rattle.day_book.proofs.Agreeing.{Kept, users_few}

-- ---- padded lists

past_at : {A : Type 0} (x : A) (xs : List A) (m i : ℕ) → length xs ≤ i → get_or (xs ++ replicate m x) i x ≡ x
past_at x [] zero i l = refl
past_at x [] (suc m) zero l = refl
past_at x [] (suc m) (suc i) l = past_at x [] m i (omega arith)
past_at x (y ∷ xs) m zero l = absurd (omega arith)
past_at x (y ∷ xs) m (suc i) l = past_at x xs m i (omega arith)

padded_past : {A : Type 0} (n : ℕ) (x : A) (xs : List A) (i : ℕ) → length xs ≤ i → get_or (padded n x xs) i x ≡ x
unfolding padded
padded_past n x xs i l = past_at x xs (n - length xs) i l

padded_front : {A : Type 0} (n : ℕ) (x : A) (xs : List A) (i : ℕ) → i < length xs → get_or (padded n x xs) i x ≡ get_or xs i x
unfolding padded
padded_front n x xs i l = get_or-append xs (replicate (n - length xs) x) x i l

padded_long : {A : Type 0} (n : ℕ) (x : A) (xs : List A) → length xs ≤ n → length (padded n x xs) ≡ n
unfolding padded
padded_long {A} n x xs l = omega (arith, length-append xs (replicate (n - length xs) x), length-replicate {A = A} (n - length xs) x)

-- ---- five kinds

kinds_low : (kind : ℕ) → has kind kinds ≡ true → kind - 1 < 5
kinds_low kind e = all_has (λ kind. kind - 1 < 5) kinds (omega arith, (omega arith, (omega arith, (omega arith, (omega arith, tt))))) kind e

kind_at : (f : ℕ → ℤ) (kind : ℕ) → has kind kinds ≡ true → atZ (map f kinds) (kind - 1) ≡ f kind
kind_at f kind e = all_has (λ kind. atZ (map f kinds) (kind - 1) ≡ f kind) kinds (refl, (refl, (refl, (refl, (refl, tt))))) kind e

-- ---- the day that a book describes, laid out

module _ (b : Book) (h : Kept b) where
  abbrev us : List User
  us = map (user_of b) b.users

  long : length us ≡ length b.users
  long = length-map b.users (user_of b)

  full : All Full us
  full = unfold day_of in all_full (day_of b) b.settled h.good

  -- one figure for each user
  one_at : {A : Type 0} (x : A) (g : User → A) (s : ℕ) → s < length b.users
      → get_or (padded USERS x (map g us)) s x ≡ g (user_of b (at b.users s))
  one_at x g s l =
      let m : s < length us = omega (arith, long) in
      padded_front USERS x (map g us) s (omega (arith, length-map us g))
      ∙ map_at g nobody x us s m
      ∙ ap g (map_at (user_of b) 0 nobody b.users s l)

  -- five for each user
  module _ (g : User → List ℤ) (f : ℕ → ℕ → ℤ) (five : (u : User) → Full u → length (g u) ≡ 5)
      (are : (n : ℕ) → g (user_of b n) ≡ map (f n) kinds) where
    fives : All (λ u. length (g u) ≡ 5) us
    fives = all_map Full (λ u. length (g u) ≡ 5) five us full

    cell_at : (s kind : ℕ) → s < length b.users → has kind kinds ≡ true
        → atZ (padded CELLS (pos 0) (flat (map g us))) (place s kind) ≡ f (at b.users s) kind
    cell_at s kind l e =
        at_flat (pos 0) (pos 0) g us s (kind - 1) fives (omega (arith, long)) (kinds_low kind e)
        ∙ ap (λ u. atZ (g u) (kind - 1)) (map_at (user_of b) 0 nobody b.users s l)
        ∙ ap (λ zs. atZ zs (kind - 1)) (are (at b.users s))
        ∙ kind_at (f (at b.users s)) kind e

    cells_past : (i : ℕ) → 5 * length b.users ≤ i → atZ (padded CELLS (pos 0) (flat (map g us))) i ≡ pos 0
    cells_past i l = padded_past CELLS (pos 0) (flat (map g us)) i (omega (arith, length_flat g us fives, long))

    cells_long : length (padded CELLS (pos 0) (flat (map g us))) ≡ CELLS
    cells_long = padded_long CELLS (pos 0) (flat (map g us)) (omega (arith, length_flat g us fives, long, users_few b h))

  ones_long : {A : Type 0} (x : A) (g : User → A) → length (padded USERS x (map g us)) ≡ USERS
  ones_long x g = padded_long USERS x (map g us) (omega (arith, length-map us g, long, users_few b h))

  ones_past : {A : Type 0} (x : A) (g : User → A) (s : ℕ) → length b.users ≤ s → get_or (padded USERS x (map g us)) s x ≡ x
  ones_past x g s l = padded_past USERS x (map g us) s (omega (arith, length-map us g, long))

  abbrev used : User → List ℤ
  used u = map pos u.consumption

  abbrev lost : User → List ℤ
  lost u = map pos u.losses

  abbrev shared : User → List ℤ
  shared u = u.balance

  used_five : (u : User) → Full u → length (used u) ≡ 5
  used_five u k = length-map u.consumption pos ∙ k.consumption

  lost_five : (u : User) → Full u → length (lost u) ≡ 5
  lost_five u k = length-map u.losses pos ∙ k.losses

  abbrev of_used : ℕ → ℕ → ℤ
  of_used n kind = pos (consumption b n kind)

  abbrev of_lost : ℕ → ℕ → ℤ
  of_lost n kind = pos (losses b n kind)

  pub holds : Holds (laid (day_of b)) b
  unfolding laid day_of
  holds = record {
    stage = refl;
    allotted = refl;
    measurement = refl;
    count = long;
    users = λ s l. record {
      number = one_at 0 (λ (u : User). u.number) s l;
      used = λ kind. cell_at used of_used used_five (λ n. refl) s kind l;
      lost = λ kind. cell_at lost of_lost lost_five (λ n. refl) s kind l;
      balance = λ kind. cell_at shared b.balance (λ u k. k.balance) (λ n. refl) s kind l;
      revision = one_at (pos 0) (λ (u : User). u.revision) s l;
    };
    past = λ s l. record {
      number = ones_past 0 (λ (u : User). u.number) s l;
      used = λ kind. cells_past used of_used used_five (λ n. refl) (place s kind) (omega arith);
      lost = λ kind. cells_past lost of_lost lost_five (λ n. refl) (place s kind) (omega arith);
      balance = λ kind. cells_past shared b.balance (λ u k. k.balance) (λ n. refl) (place s kind) (omega arith);
      revision = ones_past (pos 0) (λ (u : User). u.revision) s l;
    };
    sized = record {
      users = ones_long 0 (λ (u : User). u.number);
      consumption = cells_long used of_used used_five (λ n. refl);
      losses = cells_long lost of_lost lost_five (λ n. refl);
      balance = cells_long shared b.balance (λ u k. k.balance) (λ n. refl);
      revision = ones_long (pos 0) (λ (u : User). u.revision);
    };
  }
