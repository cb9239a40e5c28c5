-- Allot, stand-in and an assigned revision keep the invariant, and settle the net. Assumes nothing.
use mathlib.Core.Path.{◌≡◌, refl, sym, ap, ◌∙◌, subst⁻¹}
use mathlib.Core.Bool.{Bool, true}
use mathlib.Core.List.{List, [], ◌∷◌, map, zip_with}
use Prim.Native.Nat.{ℕ, ◌-◌, ◌≤◌}
use native.Mathlib.Omega.{arith}
use lib.Dec.{leb, eqb}
use lib.IntN.{ℤ, pos, nat_abs, ◌+ℤ◌, ◌-ℤ◌, +ℤ_idl, +ℤ_comm, +ℤ-neg_ℤ_cancel}
use lib.ListN.{length, length-map}
use borrow.Author.Tests.{le-leb, leb-true, not-false}
use Rattle.numbers.specs.Sums.{totalZ}
use Rattle.numbers.specs.Lists.{both, every, distinct, rising}
use Rattle.numbers.specs.Amounts.{is_negative}
use Rattle.numbers.proofs.Lists.{All, never, both_fst, both_snd, every_all, all_map, all_map₂, all_zip, zip_length, map_zip, map_map, rising_distinct}
use Rattle.numbers.proofs.Amounts.{NonNeg, pos_size, size_sub, within_sub}
use Rattle.proration.specs.Proration.{prorateZ}
use Rattle.proration.proofs.Signs.{lengthZ}
use Rattle.point_day.specs.Limits.{USERS, LAST_NUMBER, LIMIT, AMOUNT, ROWS}
use Rattle.point_day.specs.Day.{User, Day, numbers, offtake, all_offtake, whole, all_whole, net, net_of, is_measured, some, no_more, is_number, measurement_right, provisional}
use Rattle.point_day.specs.Calls.{accept, verdict, by_basis, none_in_2_to_5, or_kind_1, kinds, day_balance, user_shares, with_share, balanced, allot, revised, Pair, users_of, amounts_of, row_right, nearest_filled, opened, stand_in, assigned, assign}
use Rattle.point_day.specs.Struct.{sum_right}
use Rattle.point_day.specs.declared.Measurement.{Measurement}
use Rattle.point_day.proofs.Each.{anything, all_parts, some_length, length_some}
use Rattle.point_day.proofs.Sound.{Bare, net_pos, net_small}
use Rattle.point_day.proofs.Wholes.{NoneNegative, shares_size, length_weights, kinds_sum, kinds_size, shares_long, allot_sizes, balance_size, allot_sum, allot_small, newcomer, newcomers_bare, newcomers_none, opened_long, opened_sum, opened_wholes, small_sum, none_negative, assigned_long, revise_sum, revise_wholes, revise_small}
use Rattle.point_day.proofs.Good.{Formed, Revised, Standing, Good, allotted, good_sound, accepted}
use Rattle.point_day.proofs.Steps.{empty_formed}
use Rattle.std.specs.Prelude.{Option, None, Some}

pub net_range : (m : Option Measurement) → measurement_right m ≡ true → sum_right (net_of m) ≡ true
net_range None h = refl
net_range (Some m) h =
    le-leb (m.emission - m.downstream) LIMIT (omega (arith, leb-true m.emission LIMIT (both_fst (leb m.emission LIMIT) (leb m.downstream m.emission) h)))

-- ---- allot

share_formed : (all : Bool) (m : ℕ) → m ≤ LIMIT → (u : User) (z : ℤ) → Formed u → nat_abs z ≤ m → Formed (with_share all u z)
share_formed all m l u z f h =
    let zs = prorateZ z (or_kind_1 (by_basis all u)) kinds in
    record {
      full = record {
        consumption = f.full.consumption;
        losses = f.full.losses;
        balance = lengthZ z (or_kind_1 (by_basis all u)) kinds ∙ length_weights all u f.full;
      };
      number = f.number;
      cells =
          every_all (no_more AMOUNT) zs
          (all_map (λ x. nat_abs x ≤ nat_abs z) _ (λ x k. le-leb (nat_abs x) AMOUNT (omega arith)) zs (kinds_size all u f.full z));
      balance = rw (kinds_sum all u f.full z) (omega arith);
    }

pub allot_good : (d : Day) (s : ℤ) → Good d s → verdict (allot d).tests ≡ accept → Good (allot d).after (net d)
unfolding allot
allot_good d s g v =
    let p = accepted (allot d).tests v in
    let found = not-false (some d.users) p.1.1.0 in
    let sound = good_sound d s g in
    record {
      few = omega (arith, long, g.few);
      apart = rw (map_share (λ (u : User). u.number) (λ u z. refl)) g.apart;
      measurement = g.measurement;
      formed =
          each Formed Formed
          (λ u z f h. share_formed all (nat_abs (day_balance d)) (balance_size d sound p.0 found) u z f h)
          g.formed (allot_sizes d sound p.0 found);
      revisions = each Revised Revised (λ u z f h. f) g.revisions (allot_sizes d sound p.0 found);
      wholes = allot_small d sound p.0 found;
      sum = rw (map_share offtake (λ u z. refl)) g.sum;
      standing = record {
        some_user = length_some (balanced d) (omega (arith, long, some_length d.users found));
        measured = not-false _ p.1.0;
        adds_up = allot_sum d sound p.0 found;
        range = net_range d.measurement g.measurement;
      };
    }
  where
    all : Bool
    all = none_in_2_to_5 d.users

    long : length (balanced d) ≡ length d.users
    long = unfold balanced in zip_length (with_share all) d.users (user_shares d) (shares_long d)

    map_share : {B : Type 0} (f : User → B) → ((u : User) (z : ℤ) → f (with_share (none_in_2_to_5 d.users) u z) ≡ f u) → map f (balanced d) ≡ map f d.users
    map_share f h = unfold balanced in map_zip f f (with_share (none_in_2_to_5 d.users)) h d.users (user_shares d) (shares_long d)

    each : (P Q : User → Type 0) → ((u : User) (z : ℤ) → P u → nat_abs z ≤ nat_abs (day_balance d) → Q (with_share all u z))
        → All P d.users → All (λ z. nat_abs z ≤ nat_abs (day_balance d)) (user_shares d) → All Q (balanced d)
    each P Q f h k = unfold balanced in all_zip P (λ z. nat_abs z ≤ nat_abs (day_balance d)) Q (with_share all) f d.users (user_shares d) h k

-- ---- revisions

revised_formed : (u : User) (z : ℤ) → Formed u → Formed (revised u z)
revised_formed u z f = record {
  full = record { consumption = f.full.consumption; losses = f.full.losses; balance = f.full.balance };
  number = f.number;
  cells = f.cells;
  balance = f.balance;
}

-- ---- stand-in

pub row_used : (rows : List (List Pair)) → every row_right rows ≡ true → some (nearest_filled rows) ≡ true → row_right (nearest_filled rows) ≡ true
unfolding nearest_filled every
row_used [] e f = never f
row_used ([] ∷ rows) e f = row_used rows (both_snd (row_right []) _ e) f
row_used ((x ∷ ps) ∷ rows) e f = both_fst (row_right (x ∷ ps)) _ e

-- what a right row has
pub record Row (ps : List Pair) : Type 0 where
  pub few : length ps ≤ USERS
  pub named : every is_number (users_of ps) ≡ true
  pub apart : distinct (users_of ps) ≡ true

pub row_is : (ps : List Pair) → row_right ps ≡ true → Row ps
row_is ps e =
    let e₁ = both_snd (leb (length ps) USERS) _ e in
    let e₂ = both_snd (every is_number (users_of ps)) _ e₁ in
    record {
      few = leb-true (length ps) USERS (both_fst (leb (length ps) USERS) _ e);
      named = both_fst (every is_number (users_of ps)) _ e₁;
      apart = rising_distinct (users_of ps) (both_fst (rising (users_of ps)) _ e₂);
    }

newcomers_formed : (ps : List Pair) → every is_number (users_of ps) ≡ true → All Formed (map newcomer ps)
unfolding every
newcomers_formed [] e = tt
newcomers_formed (x ∷ ps) e = (
  empty_formed x.user (both_fst (leb 1 x.user) (leb x.user LAST_NUMBER) (both_fst (is_number x.user) _ e)),
  newcomers_formed ps (both_snd (is_number x.user) _ e),
)

-- opening a day with a row
pub opened_good : (ps : List Pair) (d : Day) → Row ps → some ps ≡ true → measurement_right d.measurement ≡ true → is_measured d.measurement ≡ true
    → Good (record { stage = d.stage; allotted = true; measurement = d.measurement; users = opened (net d) ps }) (net d)
unfolding opened
opened_good ps d row found m measured =
    let us = map newcomer ps in
    let zs = prorateZ (net d) (map nat_abs (amounts_of ps)) (users_of ps) in
    let long = opened_long (net d) ps in
    let filled = some_length ps found in
    let there : length us ≡ length ps = length-map ps newcomer in
    let sizes : All (λ z. nat_abs z ≤ nat_abs (net d)) zs =
    shares_size (net d) (map nat_abs (amounts_of ps)) (users_of ps) row.apart
    (omega (arith, length-map (amounts_of ps) nat_abs, length-map ps (λ (p : Pair). p.amount), length-map ps (λ (p : Pair). p.user))) in
    record {
      few = omega (arith, zip_length revised us zs long, row.few);
      apart = rw (map_zip (λ (u : User). u.number) (λ (u : User). u.number) revised (λ u z. refl) us zs long, map_map (λ (u : User). u.number) newcomer ps) row.apart;
      measurement = m;
      formed = all_zip Formed (λ z. Unit {0}) Formed revised (λ u z f h. revised_formed u z f) us zs (newcomers_formed ps row.named) (anything zs);
      revisions =
          all_zip Bare (λ z. nat_abs z ≤ nat_abs (net d)) Revised revised
          (λ u z b h. rw (b.revision, +ℤ_idl z) (omega (arith, net_small d.measurement m))) us zs (newcomers_bare ps) sizes;
      wholes = small_sum (opened (net d) ps) wholes (rw sum (net_small d.measurement m));
      sum = rw (map_zip offtake offtake revised (λ u z. refl) us zs long) (omega (arith, newcomers_none ps));
      standing = record {
        some_user = length_some (zip_with revised us zs) (omega (arith, zip_length revised us zs long));
        measured = measured;
        adds_up = sum;
        range = net_range d.measurement m;
      };
    }
  where
    sum : all_whole (opened (net d) ps) ≡ net d
    sum = opened_sum (net d) ps row.apart (some_length ps found)

    wholes : NoneNegative (opened (net d) ps)
    wholes = opened_wholes (net d) ps (ap is_negative (net_pos d.measurement))

pub stand_in_good : (t : ℕ) (rows : List (List Pair)) (d : Day) (s : ℤ) → Good d s → verdict (stand_in t rows d).tests ≡ accept
    → Good (stand_in t rows d).after (net d)
unfolding stand_in
stand_in_good t rows d s g v =
    let p = accepted (stand_in t rows d).tests v in
    let ps = nearest_filled rows in
    let right = both_snd (eqb (length rows) ROWS) _ (not-false (both (eqb (length rows) ROWS) (every row_right rows)) p.1.0) in
    let found = not-false (some ps) p.1.1.1.1.0 in
    opened_good ps d (row_is ps (row_used rows right found)) found g.measurement (not-false _ p.1.1.0)

-- ---- revise

-- the rest of a sum
rest : (a b r : ℤ) → r ≡ ((a +ℤ (b +ℤ r)) -ℤ a) -ℤ b
rest a b r =
    sym
    (ap (λ x. (x -ℤ a) -ℤ b) (+ℤ_comm a (b +ℤ r))
    ∙ ap (λ x. x -ℤ b) (+ℤ-neg_ℤ_cancel (b +ℤ r) a)
    ∙ ap (λ x. x -ℤ b) (+ℤ_comm b r)
    ∙ +ℤ-neg_ℤ_cancel r b)

-- a revision that brings the whole amount into 0 to 1,000,000,000
revision_small : (u : User) → NonNeg (whole u) → nat_abs (whole u) ≤ LIMIT → offtake u ≤ LIMIT → nat_abs (totalZ u.balance) ≤ LIMIT → Revised u
revision_small u e w t b =
    let first : nat_abs (whole u -ℤ pos (offtake u)) ≤ LIMIT =
    subst⁻¹ (λ z. nat_abs (z -ℤ pos (offtake u)) ≤ LIMIT) (pos_size (whole u) e) (size_sub (nat_abs (whole u)) (offtake u) LIMIT w t) in
    omega (
      arith,
      ap nat_abs (rest (pos (offtake u)) (totalZ u.balance) u.revision),
      (within_sub {m = LIMIT} {n = LIMIT} {x = whole u -ℤ pos (offtake u)} {y = totalZ u.balance} (record { size = first }) (record { size = b })).size,
    )

pub assign_good : (R : ℤ) (d : Day) (s : ℤ) → Good d s → R ≡ net d -ℤ all_whole d.users → verdict (assign R d).tests ≡ accept
    → Good (assign R d).after (net d)
assign_good R d s g r v =
    let p = accepted (assign R d).tests v in
    let us = d.users in
    let us' = assigned R us in
    let open_day = not-false (both (provisional d.stage) d.allotted) p.0 in
    let stands : d.allotted ≡ true = both_snd (provisional d.stage) d.allotted open_day in
    let settled = allotted d s g stands in
    let sound = good_sound d s g in
    let before = none_negative us p.1.0 in
    let small = revise_small d sound settled.some_user before r in
    let sum : all_offtake us' ≤ LIMIT = rw (map_revised offtake (λ u z. refl)) g.sum in
    let formed : All Formed us' = each Formed Formed (λ u z f. revised_formed u z f) g.formed in
    record {
      few = omega (arith, long, g.few);
      apart = rw (map_revised (λ (u : User). u.number) (λ u z. refl)) g.apart;
      measurement = g.measurement;
      formed = formed;
      revisions =
          all_map₂ (λ u. (NonNeg (whole u)) × (nat_abs (whole u) ≤ LIMIT)) (λ u. (offtake u ≤ LIMIT) × Formed u) Revised
          (λ u a b. revision_small u a.0 a.1 b.0 b.1.balance) us'
          (all_map₂ (λ u. NonNeg (whole u)) (λ u. nat_abs (whole u) ≤ LIMIT) _ (λ u a b. (a, b)) us' (revise_wholes d sound settled.some_user before r) small)
          (all_map₂ (λ u. offtake u ≤ LIMIT) Formed _ (λ u a b. (a, b)) us' (all_parts offtake us' LIMIT sum) formed);
      wholes = small;
      sum = sum;
      standing = subst⁻¹ (λ b. Standing b us' d.measurement (net d)) stands (record {
        some_user = length_some us' (omega (arith, long, some_length us settled.some_user));
        measured = settled.measured;
        adds_up = revise_sum d sound settled.some_user before r;
        range = net_range d.measurement g.measurement;
      });
    }
  where
    zs : List ℤ
    zs = prorateZ R (map (λ u. nat_abs (whole u)) d.users) (numbers d.users)

    long : length (assigned R d.users) ≡ length d.users
    long = unfold assigned in zip_length revised d.users zs (assigned_long R d.users)

    map_revised : {B : Type 0} (f : User → B) → ((u : User) (z : ℤ) → f (revised u z) ≡ f u) → map f (assigned R d.users) ≡ map f d.users
    map_revised f h = unfold assigned in map_zip f f revised h d.users zs (assigned_long R d.users)

    each : (P Q : User → Type 0) → ((u : User) (z : ℤ) → P u → Q (revised u z)) → All P d.users → All Q (assigned R d.users)
    each P Q f h = unfold assigned in all_zip P (λ z. Unit {0}) Q revised (λ u z a b. f u z a) d.users zs h (anything zs)
