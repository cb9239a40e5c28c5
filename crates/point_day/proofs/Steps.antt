-- Join, line, measure and start-final keep the invariant. Assumes nothing.
use mathlib.Core.Path.{◌≡◌, refl, sym, ap, ap₂, ◌∙◌}
use mathlib.Core.Bool.{Bool, true, false, not}
use mathlib.Core.List.{List, [], ◌∷◌, ◌++◌, map}
use Prim.Native.Nat.{ℕ, ◌+◌, ◌-◌, ◌≤◌}
use native.Mathlib.Omega.{arith}
use lib.Dec.{leb, eqb}
use lib.IntN.{ℤ}
use lib.ListN.{get_or, length-append, length-map, length-set}
use borrow.Author.Tests.{leb-true, leb-false, ltb-false, eqb-true, eqb-false, ne_eqb, not-false, not-true}
use Rattle.numbers.specs.Sums.{pick, total, totalZ}
use Rattle.numbers.specs.Lists.{both, every, has, distinct}
use Rattle.numbers.proofs.Sums.{total_append, total_set}
use Rattle.numbers.proofs.Lists.{All, both_fst, both_snd, either_fst, either_snd, all_map, all_append, map_append, map_map, map_eq, distinct_append}
use Rattle.point_day.specs.Limits.{LAST_NUMBER, KINDS, LIMIT, COEFFICIENT}
use Rattle.point_day.specs.Day.{User, Day, empty_user, numbers, offtake, all_offtake, is_number, emission_right}
use Rattle.point_day.specs.Calls.{accept, verdict, join, cell_step, user_line, for_user, line_right, line, measure, cleared, start_final}
use Rattle.point_day.proofs.Arrays.{Full}
use Rattle.point_day.proofs.Sound.{Bare}
use Rattle.point_day.proofs.Good.{Formed, Standing, Good, entering, bare_good, accepted}
use Rattle.point_day.specs.Day.{metered}

-- ---- an empty user

pub empty_formed : (n : ℕ) → leb 1 n ≡ true → Formed (empty_user n)
unfolding every totalZ
empty_formed n e = record {
  full = record { consumption = refl; losses = refl; balance = refl };
  number = e;
  cells = refl;
  balance = omega arith;
}

pub empty_bare : (n : ℕ) → Bare (empty_user n)
unfolding every
empty_bare n = record { balance = refl; revision = refl }

-- ---- join

pub join_good : (n : ℕ) (d : Day) (s : ℤ) → Good d s → verdict (join n d).tests ≡ accept → Good (join n d).after s
unfolding join
join_good n d s g v =
    let p = accepted (join n d).tests v in
    let named = not-false (is_number n) p.1.0 in
    bare_good (join n d).after s p.0
    (rw (length-append d.users (empty_user n ∷ [])) (let room = p.1.1.1.0 in omega (arith, leb-false)))
    (rw (map_append (λ (u : User). u.number) d.users (empty_user n ∷ [])) (distinct_append n (numbers d.users) g.apart p.1.1.0))
    g.measurement
    (all_append Formed d.users (empty_user n ∷ []) g.formed (empty_formed n (both_fst (leb 1 n) (leb n LAST_NUMBER) named), tt))
    (all_append Bare d.users (empty_user n ∷ []) (entering d s g p.0) (empty_bare n, tt))
    (more d.users g.sum)
  where
    more : (us : List User) → all_offtake us ≤ LIMIT → all_offtake (us ++ (empty_user n ∷ [])) ≤ LIMIT
    more us l = rw (map_append offtake us (empty_user n ∷ []), total_append (map offtake us) (offtake (empty_user n) ∷ [])) (unfold total in omega arith)

-- ---- line

module _ (n : ℕ) (f : User → User) where
  pub all_for : (P : User → Type 0) → ((u : User) → P u → P (f u)) → (us : List User) → All P us → All P (map (for_user n f) us)
  all_for P h [] k = tt
  all_for P h (u ∷ us) k = (go (eqb u.number n), all_for P h us k.1)
    where
      go : (p : Bool) → P (pick p (f u) u)
      go true = h u k.0
      go false = k.0

  pub numbers_for : ((u : User) → (f u).number ≡ u.number) → (us : List User) → numbers (map (for_user n f) us) ≡ numbers us
  numbers_for h us = map_map (λ (u : User). u.number) (for_user n f) us ∙ map_eq (λ u. (for_user n f u).number) (λ (u : User). u.number) (λ u. go u (eqb u.number n)) us
    where
      go : (u : User) (p : Bool) → (pick p (f u) u).number ≡ u.number
      go u true = h u
      go u false = refl

  -- a user who is not there
  pub for_nobody : (us : List User) → has n (numbers us) ≡ false → map (for_user n f) us ≡ us
  unfolding has
  for_nobody [] e = refl
  for_nobody (u ∷ us) e =
      ap₂ ◌∷◌ (ap (λ p. pick p (f u) u) (ne_eqb u.number n (λ z. eqb-false n u.number (either_fst (eqb n u.number) _ e) (sym z))))
      (for_nobody us (either_snd (eqb n u.number) _ e))

  -- numbers are distinct: f adds to one user at most
  sum_for : (x : ℕ) → ((u : User) → Full u → offtake (f u) ≡ offtake u + x) → (us : List User) → All Full us → distinct (numbers us) ≡ true
      → all_offtake (map (for_user n f) us) ≤ all_offtake us + x
  unfolding total distinct
  sum_for x h [] k e = omega arith
  sum_for x h (u ∷ us) k e = go (eqb u.number n) refl (sum_for x h us k.1 (both_snd (not (has u.number (numbers us))) _ e))
    where
      go : (p : Bool) → eqb u.number n ≡ p → all_offtake (map (for_user n f) us) ≤ all_offtake us + x
          → offtake (pick p (f u) u) + all_offtake (map (for_user n f) us) ≤ (offtake u + all_offtake us) + x
      go true q r =
          omega (
            arith,
            h u k.0,
            ap all_offtake (for_nobody us (ap (λ m. has m (numbers us)) (sym (eqb-true u.number n q)) ∙ not-true _ (both_fst _ _ e))),
          )
      go false q r = omega arith

-- the losses that a line adds, whatever the cell
abbrev pub losses_of : ℕ → ℕ → ℕ
losses_of c k = (cell_step c k (record { consumption = 0; losses = 0 })).added

module _ (kind c k : ℕ) (range : both (leb 1 kind) (leb kind KINDS) ≡ true) where
  line_full : (u : User) → Full u → Full (user_line kind c k u)
  unfolding cell_step
  line_full u h = record {
    consumption = length-set u.consumption (kind - 1) (get_or u.consumption (kind - 1) 0 + c) ∙ h.consumption;
    losses = length-set u.losses (kind - 1) (get_or u.losses (kind - 1) 0 + losses_of c k) ∙ h.losses;
    balance = h.balance;
  }

  line_offtake : (u : User) → Full u → offtake (user_line kind c k u) ≡ offtake u + (c + losses_of c k)
  unfolding cell_step
  line_offtake u h =
      let a : 1 ≤ kind = leb-true 1 kind (both_fst (leb 1 kind) (leb kind KINDS) range) in
      let b : kind ≤ KINDS = leb-true kind KINDS (both_snd (leb 1 kind) (leb kind KINDS) range) in
      omega (
        arith,
        total_set u.consumption (kind - 1) c (omega (arith, h.consumption)),
        total_set u.losses (kind - 1) (losses_of c k) (omega (arith, h.losses)),
      )

pub line_good : (n kind c k : ℕ) (d : Day) (s : ℤ) → Good d s → verdict (line n kind c k d).tests ≡ accept → Good (line n kind c k d).after s
unfolding line line_right cell_step
line_good n kind c k d s g v =
    let p = accepted (line n kind c k d).tests v in
    let values = both_snd (is_number n) _ (not-false (line_right n kind c k) p.1.0) in
    let range = both_fst (both (leb 1 kind) (leb kind KINDS)) (both (leb c LIMIT) (leb k COEFFICIENT)) values in
    let f = user_line kind c k in
    bare_good (line n kind c k d).after s p.0
    (omega (arith, length-map d.users (for_user n f), g.few))
    (rw (numbers_for n f (λ u. refl) d.users) g.apart)
    g.measurement
    (all_for n f Formed (λ u h. record { full = line_full kind c k range u h.full; number = h.number; cells = h.cells; balance = h.balance }) d.users g.formed)
    (all_for n f Bare (λ u h. record { balance = h.balance; revision = h.revision }) d.users (entering d s g p.0))
    (omega (
      arith,
      sum_for n f (c + losses_of c k) (line_offtake kind c k range) d.users (all_map Formed Full (λ u h. h.full) d.users g.formed) g.apart,
      ltb-false LIMIT (all_offtake d.users + (c + losses_of c k)) p.1.1.1.0,
    ))

-- ---- measure

pub measure_good : (e w : ℕ) (d : Day) (s : ℤ) → Good d s → verdict (measure e w d).tests ≡ accept → Good (measure e w d).after s
unfolding measure
measure_good e w d s g v =
    let p = accepted (measure e w d).tests v in
    record {
      few = g.few;
      apart = g.apart;
      measurement = not-false (emission_right e w) p.1.0;
      formed = g.formed;
      revisions = g.revisions;
      wholes = g.wholes;
      sum = g.sum;
      standing = go d.allotted g.standing;
    }
  where
    go : (b : Bool) → Standing b d.users d.measurement s → Standing b d.users (metered e w) s
    go true h = record { some_user = h.some_user; measured = refl; adds_up = h.adds_up; range = h.range }
    go false h = h

-- ---- start-final

none_cleared : (us : List User) → all_offtake (map cleared us) ≡ 0
unfolding total
none_cleared [] = refl
none_cleared (u ∷ us) = omega (arith, none_cleared us)

pub start_final_good : (d : Day) (s : ℤ) → Good d s → verdict (start_final d).tests ≡ accept → Good (start_final d).after s
unfolding start_final
start_final_good d s g v =
    bare_good (start_final d).after s refl
    (omega (arith, length-map d.users cleared, g.few))
    (rw (map_map (λ (u : User). u.number) cleared d.users) g.apart)
    (let right = g.measurement in cc)
    (formed d.users g.formed)
    (bare d.users)
    (omega (arith, none_cleared d.users))
  where
    formed : (us : List User) → All Formed us → All Formed (map cleared us)
    formed [] h = tt
    formed (u ∷ us) h = (empty_formed u.number h.0.number, formed us h.1)

    bare : (us : List User) → All Bare (map cleared us)
    bare [] = tt
    bare (u ∷ us) = (empty_bare u.number, bare us)
