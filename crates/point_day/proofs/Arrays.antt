-- A day laid out in arrays is read back, and nothing stands past its last user. Assumes nothing.
use mathlib.Core.Path.{◌≡◌, refl, ap, ◌∙◌}
use mathlib.Core.Bool.{Bool, true, not}
use mathlib.Core.List.{List, [], ◌∷◌, ◌++◌, map, append_assoc}
use Prim.Native.Nat.{ℕ, zero, suc, ◌+◌, ◌-◌, ◌*◌, ◌<◌}
use native.Mathlib.Omega.{arith}
use lib.IntN.{ℤ, pos, nat_abs}
use lib.ListN.{length, get_or, drop, replicate, length-append, length-map, get_or-append, get_or-map}
use lib.Seq.{take_at, drop_at, drop-append-add, ext_get_or}
use Rattle.numbers.specs.Sums.{table}
use Rattle.numbers.proofs.Sums.{length_table, getD_table}
use Rattle.numbers.specs.Amounts.{is_negative}
use Rattle.numbers.specs.Lists.{every, flat}
use Rattle.point_day.specs.Limits.{USERS, CELLS}
use Rattle.point_day.specs.Day.{User, Day, empty_user, is_zero}
use Rattle.point_day.specs.Struct.{kinds_of, user_at, read, padded, laid, none_past, none_below}
use Rattle.numbers.proofs.Lists.{All, all_map, both_true, every_append}
use Rattle.numbers.proofs.Amounts.{sizes_of_pos}
use Rattle.point_day.proofs.Taken.{Past}

-- a user with a number for each kind
pub record Full (u : User) : Type 0 where
  pub consumption : length u.consumption ≡ 5
  pub losses : length u.losses ≡ 5
  pub balance : length u.balance ≡ 5

abbrev pub nobody : User
nobody = empty_user 0

-- ---- rows of kinds-of

module _ {A : Type 0} (f : User → List A) where
  pub kinds_of_flat : (us : List User) (r : List A) (s : ℕ) → All (λ u. length (f u) ≡ 5) us → s < length us → kinds_of s (flat (map f us) ++ r) ≡ f (get_or us s nobody)
  unfolding flat
  kinds_of_flat [] r s h l = absurd (omega arith)
  kinds_of_flat (u ∷ us) r zero h l = rw (append_assoc (f u) (flat (map f us)) r) (take_at (f u) _ 5 h.0)
  kinds_of_flat (u ∷ us) r (suc s) h l =
      let e : 5 * suc s ≡ length (f u) + 5 * s = omega (arith, h.0) in
      rw (append_assoc (f u) (flat (map f us)) r, e, drop-append-add (f u) (flat (map f us) ++ r) (5 * s)) (kinds_of_flat us r s h.1 (omega arith))

  pub length_flat : (us : List User) → All (λ u. length (f u) ≡ 5) us → length (flat (map f us)) ≡ 5 * length us
  unfolding flat
  length_flat [] h = refl
  length_flat (u ∷ us) h = rw (length-append (f u) (flat (map f us))) (omega (arith, h.0, length_flat us h.1))

  every_flat : (p : A → Bool) → ((u : User) → every p (f u) ≡ true) → (us : List User) → every p (flat (map f us)) ≡ true
  unfolding flat
  every_flat p h [] = unfold every in refl
  every_flat p h (u ∷ us) = every_append p (f u) (flat (map f us)) (h u) (every_flat p h us)

every_replicate : {A : Type 0} (p : A → Bool) (x : A) → p x ≡ true → (n : ℕ) → every p (replicate n x) ≡ true
unfolding every
every_replicate p x e zero = refl
every_replicate p x e (suc n) = both_true {p = p x} e (every_replicate p x e n)

none_negative : (xs : List ℕ) → every (λ z. not (is_negative z)) (map pos xs) ≡ true
unfolding every
none_negative [] = refl
none_negative (x ∷ xs) = none_negative xs

-- ---- one number for each user

at_user : {B : Type 0} (g : User → B) (n : ℕ) (x : B) (us : List User) (s : ℕ) → s < length us → get_or (padded n x (map g us)) s (g nobody) ≡ g (get_or us s nobody)
unfolding padded
at_user g n x us s l =
    get_or-append (map g us) _ (g nobody) s (omega (arith, length-map us g)) ∙ get_or-map g us s nobody

-- ---- read back

module _ (d : Day) (full : All Full d.users) where
  user_back : (s : ℕ) → s < length d.users → user_at (laid d) s ≡ get_or d.users s nobody
  unfolding user_at laid padded
  user_back s l = λ i. record {
    number = at_user (λ (u : User). u.number) USERS 0 d.users s l i;
    consumption = c i;
    losses = o i;
    balance = b i;
    revision = at_user (λ (u : User). u.revision) USERS (pos 0) d.users s l i;
  }
    where
      c : map nat_abs (kinds_of s (padded (CELLS) (pos 0) (flat (map (λ u. map pos u.consumption) d.users)))) ≡ (get_or d.users s nobody).consumption
      c = ap (map nat_abs) (kinds_of_flat (λ u. map pos u.consumption) d.users _ s (all_map Full _ (λ u h. length-map u.consumption pos ∙ h.consumption) d.users full) l) ∙ sizes_of_pos _

      b : kinds_of s (padded (CELLS) (pos 0) (flat (map (λ (u : User). u.balance) d.users))) ≡ (get_or d.users s nobody).balance
      b = kinds_of_flat (λ (u : User). u.balance) d.users _ s (all_map Full _ (λ u h. h.balance) d.users full) l

      o : map nat_abs (kinds_of s (padded (CELLS) (pos 0) (flat (map (λ u. map pos u.losses) d.users)))) ≡ (get_or d.users s nobody).losses
      o = ap (map nat_abs) (kinds_of_flat (λ u. map pos u.losses) d.users _ s (all_map Full _ (λ u h. length-map u.losses pos ∙ h.losses) d.users full) l) ∙ sizes_of_pos _

  users_back : table (user_at (laid d)) (length d.users) ≡ d.users
  users_back =
      ext_get_or nobody _ d.users (length_table _ (length d.users))
      (λ i l. let m : i < length d.users = omega (arith, length_table (user_at (laid d)) (length d.users)) in getD_table _ (length d.users) i nobody m ∙ user_back i m)

  pub read_laid : read (laid d) ≡ d
  unfolding read laid
  read_laid = λ i. record { stage = d.stage; allotted = d.allotted; measurement = d.measurement; users = users_back i }

  -- ---- nothing past the last user, and no consumption or losses below 0

  past : (f : User → List ℤ) → All (λ u. length (f u) ≡ 5) d.users → none_past (5 * length d.users) (padded (CELLS) (pos 0) (flat (map f d.users))) ≡ true
  unfolding padded
  past f h =
      rw (drop_at (flat (map f d.users)) (replicate (CELLS - length (flat (map f d.users))) (pos 0)) (5 * length d.users) (length_flat f d.users h))
      (every_replicate is_zero (pos 0) refl (CELLS - length (flat (map f d.users))))

  below : (f : User → List ℕ) → none_below (padded (CELLS) (pos 0) (flat (map (λ u. map pos (f u)) d.users))) ≡ true
  unfolding padded
  below f =
      every_append _ (flat (map (λ u. map pos (f u)) d.users)) _
      (every_flat (λ u. map pos (f u)) _ (λ u. none_negative (f u)) d.users)
      (every_replicate (λ z. not (is_negative z)) (pos 0) refl (CELLS - length (flat (map (λ u. map pos (f u)) d.users))))

  past_one : {B : Type 0} (p : B → Bool) (x : B) → p x ≡ true → (g : User → B) → every p (drop (length d.users) (padded USERS x (map g d.users))) ≡ true
  unfolding padded
  past_one p x e g =
      rw (drop_at (map g d.users) (replicate (USERS - length (map g d.users)) x) (length d.users) (length-map d.users g)) (every_replicate p x e (USERS - length (map g d.users)))

  pub past_laid : Past (laid d)
  unfolding laid
  past_laid = record {
    users = past_one _ 0 refl (λ (u : User). u.number);
    consumption = past _ (all_map Full _ (λ u h. length-map u.consumption pos ∙ h.consumption) d.users full);
    losses = past _ (all_map Full _ (λ u h. length-map u.losses pos ∙ h.losses) d.users full);
    balance = past _ (all_map Full _ (λ u h. h.balance) d.users full);
    revision = past_one is_zero (pos 0) refl (λ (u : User). u.revision);
  }

  pub consumption_laid : none_below (laid d).consumption ≡ true
  unfolding laid
  consumption_laid = below (λ (u : User). u.consumption)

  pub losses_laid : none_below (laid d).losses ≡ true
  unfolding laid
  losses_laid = below (λ (u : User). u.losses)
