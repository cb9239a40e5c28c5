-- Opening a day with a list: the point-day with its users and shares is the layout of the day after it. Assumes nothing.
use mathlib.Core.Path.{◌≡◌, refl, sym, ap, ap₂, ◌∙◌}
use mathlib.Core.Bool.{true, not}
use mathlib.Core.List.{List, [], ◌∷◌, ◌++◌, map, zip_with}
use Prim.Native.Nat.{ℕ, suc, ◌+◌, ◌-◌, ◌*◌, ◌≤◌}
use native.Mathlib.Omega.{arith}
use lib.IntN.{ℤ, pos, nat_abs, +ℤ_idl}
use lib.ListN.{length, replicate, length-map, replicate-append-replicate}
use Rattle.numbers.specs.Sums.{table, total, totalZ}
use Rattle.numbers.specs.Lists.{both, every, flat}
use Rattle.numbers.proofs.Lists.{map_zip, map_map}
use Rattle.proration.specs.Proration.{prorateZ}
use Rattle.point_day.specs.Fields.{same_fields}
use Rattle.point_day.specs.Limits.{USERS, CELLS, KINDS, AMOUNT}
use Rattle.point_day.specs.Day.{User, empty_user, numbers, whole, no_more, too_large}
use Rattle.point_day.specs.Calls.{allotted_with, revised, Pair, users_of, amounts_of, opened}
use Rattle.point_day.specs.Struct.{Sized, user_at, read, padded, laid, taken}
use Rattle.point_day.specs.declared.PointDay.{PointDay}
use Rattle.point_day.proofs.Taken.{taken_facts}
use Rattle.point_day.proofs.Back.{laid_read}
use Rattle.point_day.proofs.Wholes.{newcomer, opened_long}
use Rattle.point_day.proofs.Counts.{opened_count}
use Rattle.columns.proofs.Padding.{padded_over, padded_every, padded_none}
use Rattle.taken.specs.Tested.{any_large}
use Rattle.stand_in.specs.Openings.{row_shares, opened_with}

-- ---- zeros

flat_none : (f : User → List ℤ) → ((n : ℕ) → f (empty_user n) ≡ replicate KINDS (pos 0)) → (ps : List Pair) → flat (map f (map newcomer ps)) ≡ replicate (KINDS * length ps) (pos 0)
unfolding flat
flat_none f e [] = refl
flat_none f e (p ∷ ps) =
    let q : KINDS + KINDS * length ps ≡ KINDS * suc (length ps) = omega arith in
    ap₂ ◌++◌ (e p.user) (flat_none f e ps) ∙ replicate-append-replicate KINDS (KINDS * length ps) (pos 0) ∙ ap (λ m. replicate m (pos 0)) q

-- newcomers have no revision before
only_shares : (ps : List Pair) (zs : List ℤ) → length (map newcomer ps) ≡ length zs → map (λ (u : User). u.revision) (zip_with revised (map newcomer ps) zs) ≡ zs
unfolding zip_with
only_shares [] [] e = refl
only_shares [] (z ∷ zs) e = absurd (omega arith)
only_shares (p ∷ ps) [] e = absurd (omega arith)
only_shares (p ∷ ps) (z ∷ zs) e = ap₂ ◌∷◌ (+ℤ_idl z) (only_shares ps zs (omega arith))

share_whole : (n : ℕ) (z : ℤ) → whole (revised (empty_user n) z) ≡ z
unfolding total totalZ
share_whole n z = +ℤ_idl _ ∙ +ℤ_idl _ ∙ +ℤ_idl z

shares_whole : (ps : List Pair) (zs : List ℤ) → length (map newcomer ps) ≡ length zs
    → every (λ u. no_more AMOUNT (whole u)) (zip_with revised (map newcomer ps) zs) ≡ every (no_more AMOUNT) zs
unfolding zip_with every
shares_whole [] [] e = refl
shares_whole [] (z ∷ zs) e = absurd (omega arith)
shares_whole (p ∷ ps) [] e = absurd (omega arith)
shares_whole (p ∷ ps) (z ∷ zs) e = ap₂ (λ x b. both (no_more AMOUNT x) b) (share_whole p.user z) (shares_whole ps zs (omega arith))

module _ (z : ℤ) (ps : List Pair) where
  abbrev zs : List ℤ
  zs = prorateZ z (map nat_abs (amounts_of ps)) (users_of ps)

  same : {A : Type 0} (f : User → A) → ((u : User) (x : ℤ) → f (revised u x) ≡ f u) → map f (opened z ps) ≡ map f (map newcomer ps)
  unfolding opened
  same f h = map_zip f f revised h (map newcomer ps) zs (opened_long z ps)

  -- the whole amounts are the shares
  pub large_is : too_large (opened z ps) ≡ any_large (row_shares z ps)
  unfolding opened
  large_is =
      ap not (shares_whole ps zs (opened_long z ps) ∙ sym (padded_every (pos 0) USERS (no_more AMOUNT) refl zs))

  module _ (d : PointDay) (sized : Sized d) (ok : taken d ≡ true) (nobody : d.count ≡ 0) (few : length ps ≤ USERS) where
    no_users : (read d).users ≡ []
    unfolding read table
    no_users = ap (table (user_at d)) nobody

    -- a point-day without users is zeros
    day_is : d ≡ laid (read d)
    day_is = sym (laid_read d sized (taken_facts d ok))

    zeros : {A : Type 0} (N : ℕ) (x : A) → padded N x [] ≡ replicate N x
    unfolding padded
    zeros N x = let e : N - 0 ≡ N = omega arith in ap (λ m. replicate m x) e

    unused : d.users ≡ replicate USERS 0
    unfolding laid
    unused = ap (λ (e : PointDay). e.users) day_is ∙ ap (λ us. padded USERS 0 (numbers us)) no_users ∙ zeros USERS 0

    no_cells : (f : User → List ℤ) → padded CELLS (pos 0) (flat (map f (read d).users)) ≡ replicate CELLS (pos 0)
    unfolding flat
    no_cells f = ap (λ us. padded CELLS (pos 0) (flat (map f us))) no_users ∙ zeros CELLS (pos 0)

    none : (f : User → List ℤ) → ((u : User) (x : ℤ) → f (revised u x) ≡ f u) → ((n : ℕ) → f (empty_user n) ≡ replicate KINDS (pos 0))
        → padded CELLS (pos 0) (flat (map f (opened z ps))) ≡ padded CELLS (pos 0) (flat (map f (read d).users))
    none f h e =
        ap (λ l. padded CELLS (pos 0) (flat l)) (same f h)
        ∙ ap (padded CELLS (pos 0)) (flat_none f e ps)
        ∙ padded_none (pos 0) CELLS (KINDS * length ps) (omega arith)
        ∙ sym (no_cells f)

    pub laid_opened : laid (allotted_with (opened z ps) (read d)) ≡ opened_with (users_of ps) (row_shares z ps) d
    unfolding laid
    laid_opened = same_fields (record {
      stage = stage;
      allotted = refl;
      measurement = measurement;
      count = opened_count z ps ∙ sym (length-map ps (λ (p : Pair). p.user));
      users = ap (padded USERS 0) (same (λ (u : User). u.number) (λ u x. refl) ∙ map_map (λ (u : User). u.number) newcomer ps)
          ∙ sym (padded_over 0 USERS (length (users_of ps)) (users_of ps) refl unused refl);
      consumption = none (λ u. map pos u.consumption) (λ u x. refl) (λ n. refl) ∙ sym (ap (λ (e : PointDay). e.consumption) day_is);
      losses = none (λ u. map pos u.losses) (λ u x. refl) (λ n. refl) ∙ sym (ap (λ (e : PointDay). e.losses) day_is);
      balance = none (λ (u : User). u.balance) (λ u x. refl) (λ n. refl) ∙ sym (ap (λ (e : PointDay). e.balance) day_is);
      revision = ap (padded USERS (pos 0)) revisions;
    })
      where
        stage : (read d).stage ≡ d.stage
        stage = unfold read in refl

        measurement : (read d).measurement ≡ d.measurement
        measurement = unfold read in refl

        revisions : map (λ (u : User). u.revision) (opened z ps) ≡ zs
        revisions = unfold opened in only_shares ps zs (opened_long z ps)
