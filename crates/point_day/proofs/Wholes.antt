-- Whole amounts after allot, stand-in and revise, on any sound day: they add up to net, and none is above 1,000,000,000 in size. Assumes nothing.
use mathlib.Core.Path.{◌≡◌, refl, sym, ap, ap₂, ◌∙◌, subst⁻¹}
use mathlib.Core.Bool.{Bool, true, false, not}
use mathlib.Core.List.{List, [], ◌∷◌, map, zip_with}
use mathlib.Core.Logic.{⊎_elim, ◌⊎◌, inl, inr}
use Prim.Native.Nat.{ℕ, zero, suc, ◌+◌, ◌-◌, ◌≤◌, ◌<◌}
use native.Mathlib.Omega.{arith}
use lib.Dec.{ltb, eqb}
use lib.IntN.{ℤ, pos, negsuc, neg_ℤ, nat_abs, ◌+ℤ◌, ◌-ℤ◌, +ℤ_idl, +ℤ_idr, +ℤ_assoc}
use lib.ListN.{length, get_or, length-map, length-drop}
use borrow.Author.Tests.{le-leb, ltb-true, ltb-false, le-ltb, not-true, not-false}
use Rattle.numbers.specs.Sums.{pick, atZ, total, totalZ}
use Rattle.numbers.specs.Lists.{every, has, distinct}
use Rattle.numbers.specs.Amounts.{is_negative, Between}
use Rattle.numbers.proofs.Sums.{cases}
use Rattle.numbers.proofs.Lists.{All, true≢false, never, all_every, every_all, all_map, all_map₂, all_zip, zip_length, map_zip, map_map, distinct_is}
use Rattle.numbers.proofs.Amounts.{exchange, fill_up, sub_pos, size_sub, NonNeg, sum_nonneg}
use Rattle.proration.specs.Proration.{prorateZ}
use Rattle.proration.proofs.Signs.{lengthZ, totalZ_is}
use Rattle.proration.proofs.Fairness.{share_sign, share_size, share_capped}
use Rattle.point_day.specs.Limits.{KINDS, LIMIT, AMOUNT}
use Rattle.point_day.specs.Day.{User, Day, empty_user, numbers, offtake, all_offtake, whole, all_whole, net, some, too_large}
use Rattle.point_day.specs.Calls.{of_kinds, by_basis, none_in_2_to_5, or_kind_1, kinds, day_balance, user_shares, with_share, balanced, revised, Pair, users_of, amounts_of, negative, opened, assigned}
use Rattle.point_day.proofs.Arrays.{Full, nobody}
use Rattle.point_day.proofs.Each.{all_at, at_all, all_of_map, map_of_all, map_at, all_zip_at, all_parts, some_length}
use Rattle.point_day.proofs.Sound.{Bare, Sound, bare_all, net_pos, net_small}

-- ---- the shares of a split, all at once

module _ (z : ℤ) (ws ks : List ℕ) where
  pub shares_nonneg : is_negative z ≡ false → All NonNeg (prorateZ z ws ks)
  shares_nonneg e =
      at_all NonNeg (pos 0) (prorateZ z ws ks)
      (λ i l. ⊎_elim (λ n. ap is_negative n) (λ n. n ∙ e) (share_sign z ws ks i (omega (arith, lengthZ z ws ks))))

  module _ (apart : distinct ks ≡ true) (long : length ws ≤ length ks) where
    pub shares_sum : 0 < length ws → totalZ (prorateZ z ws ks) ≡ z
    shares_sum filled = totalZ_is z ws ks filled (distinct_is ks apart) long

    pub shares_size : All (λ x. nat_abs x ≤ nat_abs z) (prorateZ z ws ks)
    shares_size =
        at_all (λ x. nat_abs x ≤ nat_abs z) (pos 0) (prorateZ z ws ks)
        (λ i l. share_size z ws ks i (omega (arith, lengthZ z ws ks)) (distinct_is ks apart) long)

-- of a negative amount no share is above 0
abbrev NonPos : ℤ → Type 0
NonPos z = z ≡ neg_ℤ (pos (nat_abs z))

negative_is : (z : ℤ) → is_negative z ≡ true → NonPos z
negative_is (pos n) e = never e
negative_is (negsuc n) e = refl

shares_nonpos : (z : ℤ) (ws ks : List ℕ) → is_negative z ≡ true → All NonPos (prorateZ z ws ks)
shares_nonpos z ws ks e =
    at_all NonPos (pos 0) (prorateZ z ws ks)
    (λ i l. ⊎_elim (λ n. subst⁻¹ NonPos n refl) (λ n. negative_is _ (n ∙ e)) (share_sign z ws ks i (omega (arith, lengthZ z ws ks))))

-- ---- the kinds of a user

pub length_weights : (all : Bool) (u : User) → Full u → length (or_kind_1 (by_basis all u)) ≡ KINDS
length_weights all u h = go (eqb (total (by_basis all u)) 0) all
  where
    five : length (of_kinds u) ≡ KINDS
    five = zip_length ◌+◌ u.consumption u.losses (h.consumption ∙ sym h.losses) ∙ h.consumption

    go : (p q : Bool) → length (pick p (1 ∷ 0 ∷ 0 ∷ 0 ∷ 0 ∷ []) (by_basis q u)) ≡ KINDS
    go true q = refl
    go false true = five
    go false false = omega (arith, length-drop 1 (of_kinds u), five)

module _ (all : Bool) (u : User) (h : Full u) (z : ℤ) where
  pub kinds_sum : totalZ (prorateZ z (or_kind_1 (by_basis all u)) kinds) ≡ z
  unfolding distinct has
  kinds_sum =
      shares_sum z (or_kind_1 (by_basis all u)) kinds refl (omega (arith, length_weights all u h)) (omega (arith, length_weights all u h))

  pub kinds_size : All (λ x. nat_abs x ≤ nat_abs z) (prorateZ z (or_kind_1 (by_basis all u)) kinds)
  unfolding distinct has
  kinds_size = shares_size z (or_kind_1 (by_basis all u)) kinds refl (omega (arith, length_weights all u h))

  -- the whole amount is consumption plus losses and the share
  pub whole_share : u.revision ≡ pos 0 → whole (with_share all u z) ≡ pos (offtake u) +ℤ z
  whole_share r = ap₂ (λ b x. pos (offtake u) +ℤ (b +ℤ x)) kinds_sum r ∙ ap (λ x. pos (offtake u) +ℤ x) (+ℤ_idr z)

-- ---- amounts that are not negative, by their sum

-- no whole amount is negative
abbrev pub NoneNegative : List User → Type 0
NoneNegative us = All (λ u. NonNeg (whole u)) us

-- no whole amount is above 1,000,000,000 in size
abbrev pub Small : List User → Type 0
Small us = All (λ u. nat_abs (whole u) ≤ LIMIT) us

pub whole_sum : (us : List User) → NoneNegative us → all_whole us ≡ pos (total (map (λ u. nat_abs (whole u)) us))
whole_sum us h = sum_nonneg (map whole us) (map_of_all NonNeg whole us h) ∙ ap (λ l. pos (total l)) (map_map nat_abs whole us)

pub small_sum : (us : List User) → NoneNegative us → nat_abs (all_whole us) ≤ LIMIT → Small us
small_sum us h l = all_parts (λ u. nat_abs (whole u)) us LIMIT (omega (arith, ap nat_abs (whole_sum us h)))

-- so refusal 12 does not come
pub small_right : (us : List User) → Small us → too_large us ≡ false
small_right us h =
    ap not (every_all _ us (all_map (λ u. nat_abs (whole u) ≤ LIMIT) _ (λ u l. le-leb (nat_abs (whole u)) AMOUNT (omega arith)) us h))

-- ---- allot

abbrev weights : Day → List ℕ
weights d = map (λ u. total (by_basis (none_in_2_to_5 d.users) u)) d.users

pub shares_long : (d : Day) → length d.users ≡ length (user_shares d)
shares_long d = sym (lengthZ (day_balance d) (weights d) (numbers d.users) ∙ length-map d.users _)

balance_sum : (all : Bool) (us : List User) (zs : List ℤ) → length us ≡ length zs → All Full us → All Bare us
    → all_whole (zip_with (with_share all) us zs) ≡ pos (all_offtake us) +ℤ totalZ zs
unfolding zip_with totalZ total
balance_sum all [] [] l f b = refl
balance_sum all [] (z ∷ zs) l f b = absurd (omega arith)
balance_sum all (u ∷ us) [] l f b = absurd (omega arith)
balance_sum all (u ∷ us) (z ∷ zs) l f b =
    ap₂ ◌+ℤ◌ (whole_share all u f.0 z b.0.revision) (balance_sum all us zs (omega arith) f.1 b.1)
    ∙ exchange (pos (offtake u)) z (pos (all_offtake us)) (totalZ zs)

-- a + b is not negative if neither is
nonneg_add : (n : ℕ) (z : ℤ) → NonNeg z → NonNeg (pos n +ℤ z)
nonneg_add n (pos m) e = refl
nonneg_add n (negsuc m) e = true≢false e

-- n less x lies between −m and n
lowered : (m n x : ℕ) → n ≤ m → x ≤ m → Between (neg_ℤ (pos m)) (pos n) (pos n -ℤ pos x)
lowered m n x h k = rw (sub_pos n x) (⊎_elim (λ t. rw t (low m (ltb-true n x t) k)) (λ t. rw t (high m (ltb-false n x t))) (cases (ltb n x)))
  where
    low : (m : ℕ) → n < x → x ≤ m → Between (neg_ℤ (pos m)) (pos n) (negsuc (x - suc n))
    low zero l k = absurd (omega arith)
    low (suc m) l k = record { above = le-ltb m (x - suc n) (omega arith); below = refl }

    high : (m : ℕ) → x ≤ n → Between (neg_ℤ (pos m)) (pos n) (pos (n - x))
    high zero l = record { above = le-ltb (n - x) 0 (omega arith); below = le-ltb n (n - x) (omega arith) }
    high (suc m) l = record { above = refl; below = le-ltb n (n - x) (omega arith) }

between_size : (m n : ℕ) (z : ℤ) → n ≤ m → Between (neg_ℤ (pos m)) (pos n) z → nat_abs z ≤ m
between_size m n (pos x) l h = omega (arith, ltb-false n x h.below)
between_size zero n (negsuc x) l h = true≢false h.above
between_size (suc m) n (negsuc x) l h = omega (arith, ltb-false m x h.above)

-- the amount of a balance below 0
deficit : (n m : ℕ) → is_negative (pos n -ℤ pos m) ≡ true → nat_abs (pos n -ℤ pos m) ≤ m
deficit n m = rw (sub_pos n m) (⊎_elim (λ t. rw t (λ e. omega (arith, ltb-true n m t))) (λ t. rw t (λ e. never e)) (cases (ltb n m)))

module _ (d : Day) (s : Sound d) (e : d.allotted ≡ false) (filled : some d.users ≡ true) where
  abbrev us : List User
  us = d.users

  abbrev all : Bool
  all = none_in_2_to_5 us

  bare : All Bare us
  bare = s.entering e

  named : length (weights d) ≤ length (numbers us)
  named = omega (arith, length-map us (λ u. total (by_basis all u)), length-map us (λ (u : User). u.number))

  -- the shares add up to the balance, and none is above it
  pub allot_shares : totalZ (user_shares d) ≡ day_balance d
  allot_shares =
      shares_sum (day_balance d) (weights d) (numbers us) s.apart named
      (omega (arith, some_length us filled, length-map us (λ u. total (by_basis all u))))

  pub allot_sizes : All (λ z. nat_abs z ≤ nat_abs (day_balance d)) (user_shares d)
  allot_sizes = shares_size (day_balance d) (weights d) (numbers us) s.apart named

  pub balance_size : nat_abs (day_balance d) ≤ LIMIT
  balance_size =
      rw (net_pos d.measurement)
      (size_sub (nat_abs (net d)) (all_offtake us) LIMIT (net_small d.measurement s.measurement) s.sum)

  -- the whole amounts add up to net
  pub allot_sum : all_whole (balanced d) ≡ net d
  unfolding balanced
  allot_sum =
      balance_sum all us (user_shares d) (shares_long d) s.full bare
      ∙ ap (λ x. pos (all_offtake us) +ℤ x) allot_shares
      ∙ fill_up (pos (all_offtake us)) (net d)

  whole_at : (i : ℕ) → i < length us
      → whole (with_share all (get_or us i nobody) (atZ (user_shares d) i)) ≡ pos (offtake (get_or us i nobody)) +ℤ atZ (user_shares d) i
  whole_at i l =
      whole_share all (get_or us i nobody) (all_at Full nobody us s.full i l) (atZ (user_shares d) i) (all_at Bare nobody us bare i l).revision

  each : (P : User → Type 0)
      → ((i : ℕ) → i < length us → P (with_share all (get_or us i nobody) (atZ (user_shares d) i))) → All P (balanced d)
  unfolding balanced
  each P h = all_zip_at (with_share all) nobody (pos 0) P us (user_shares d) (shares_long d) h

  allot_above : is_negative (day_balance d) ≡ false → NoneNegative (balanced d)
  allot_above p =
      each (λ u. NonNeg (whole u))
      (λ i l. rw (whole_at i l)
      (nonneg_add (offtake (get_or us i nobody)) (atZ (user_shares d) i)
      (all_at NonNeg (pos 0) (user_shares d) (shares_nonneg (day_balance d) (weights d) (numbers us) p) i (omega (arith, shares_long d)))))

  allot_below : is_negative (day_balance d) ≡ true → All (λ u. Between (neg_ℤ (pos LIMIT)) (pos (offtake u)) (whole u)) (balanced d)
  allot_below p =
      each (λ u. Between (neg_ℤ (pos LIMIT)) (pos (offtake u)) (whole u))
      (λ i l.
      let u = get_or us i nobody in
      let z = atZ (user_shares d) i in
      let m : i < length (user_shares d) = omega (arith, shares_long d) in
      let minus : z ≡ neg_ℤ (pos (nat_abs z)) = all_at NonPos (pos 0) (user_shares d) (shares_nonpos (day_balance d) (weights d) (numbers us) p) i m in
      let size : nat_abs z ≤ nat_abs (day_balance d) = all_at (λ z. nat_abs z ≤ nat_abs (day_balance d)) (pos 0) (user_shares d) allot_sizes i m in
      let small : offtake u ≤ LIMIT = all_at (λ u. offtake u ≤ LIMIT) nobody us (all_parts offtake us LIMIT s.sum) i l in
      rw (whole_at i l)
      (subst⁻¹ (λ x. Between (neg_ℤ (pos LIMIT)) (pos (offtake u)) (pos (offtake u) +ℤ x)) minus
      (lowered LIMIT (offtake u) (nat_abs z) small (omega (arith, balance_size)))))

  -- the whole amounts are not negative, or each lies between −1,000,000,000 and its user's consumption plus losses
  pub allot_wholes : NoneNegative (balanced d) ⊎ All (λ u. Between (neg_ℤ (pos LIMIT)) (pos (offtake u)) (whole u)) (balanced d)
  allot_wholes = ⊎_elim (λ p. inr (allot_below p)) (λ p. inl (allot_above p)) (cases (is_negative (day_balance d)))

  allot_offtakes : all_offtake (balanced d) ≡ all_offtake us
  unfolding balanced
  allot_offtakes = ap total (map_zip offtake offtake (with_share all) (λ u z. refl) us (user_shares d) (shares_long d))

  -- so none is above 1,000,000,000 in size
  pub allot_small : Small (balanced d)
  allot_small =
      ⊎_elim
      (λ h. small_sum (balanced d) h (rw allot_sum (net_small d.measurement s.measurement)))
      (λ h. all_map₂ (λ u. offtake u ≤ LIMIT) (λ u. Between (neg_ℤ (pos LIMIT)) (pos (offtake u)) (whole u)) (λ u. nat_abs (whole u) ≤ LIMIT)
      (λ u l b. between_size LIMIT (offtake u) (whole u) l b)
      (balanced d) (all_parts offtake (balanced d) LIMIT (omega (arith, allot_offtakes, s.sum))) h)
      allot_wholes

-- ---- revisions

pub whole_revised : (u : User) (z : ℤ) → whole (revised u z) ≡ whole u +ℤ z
whole_revised u z =
    ap (λ x. pos (offtake u) +ℤ x) (sym (+ℤ_assoc (totalZ u.balance) u.revision z))
    ∙ sym (+ℤ_assoc (pos (offtake u)) (totalZ u.balance +ℤ u.revision) z)

pub revised_sum : (us : List User) (zs : List ℤ) → length us ≡ length zs → all_whole (zip_with revised us zs) ≡ all_whole us +ℤ totalZ zs
unfolding zip_with totalZ
revised_sum [] [] l = refl
revised_sum [] (z ∷ zs) l = absurd (omega arith)
revised_sum (u ∷ us) [] l = absurd (omega arith)
revised_sum (u ∷ us) (z ∷ zs) l =
    ap₂ ◌+ℤ◌ (whole_revised u z) (revised_sum us zs (omega arith)) ∙ exchange (whole u) z (all_whole us) (totalZ zs)

-- ---- stand-in

abbrev pub newcomer : Pair → User
newcomer p = empty_user p.user

pub newcomers_bare : (ps : List Pair) → All Bare (map newcomer ps)
unfolding every
newcomers_bare [] = tt
newcomers_bare (p ∷ ps) = (record { balance = refl; revision = refl }, newcomers_bare ps)

pub newcomers_none : (ps : List Pair) → all_offtake (map newcomer ps) ≡ 0
unfolding total
newcomers_none [] = refl
newcomers_none (p ∷ ps) = omega (arith, newcomers_none ps)

newcomer_whole : (n : ℕ) → whole (empty_user n) ≡ pos 0
unfolding total totalZ
newcomer_whole n = refl

module _ (z : ℤ) (ps : List Pair) where
  abbrev amounts : List ℕ
  amounts = map nat_abs (amounts_of ps)

  amounts_long : length amounts ≡ length ps
  amounts_long = length-map (amounts_of ps) nat_abs ∙ length-map ps (λ (p : Pair). p.amount)

  users_long : length (users_of ps) ≡ length ps
  users_long = length-map ps (λ (p : Pair). p.user)

  pub opened_long : length (map newcomer ps) ≡ length (prorateZ z amounts (users_of ps))
  opened_long = length-map ps newcomer ∙ sym (lengthZ z amounts (users_of ps) ∙ amounts_long)

  -- the whole amounts add up to the amount that is prorated
  pub opened_sum : distinct (users_of ps) ≡ true → 0 < length ps → all_whole (opened z ps) ≡ z
  unfolding opened
  opened_sum apart filled =
      revised_sum (map newcomer ps) (prorateZ z amounts (users_of ps)) opened_long
      ∙ ap₂ ◌+ℤ◌
      (bare_all (map newcomer ps) (newcomers_bare ps) ∙ ap pos (newcomers_none ps))
      (shares_sum z amounts (users_of ps) apart (omega (arith, amounts_long, users_long)) (omega (arith, amounts_long)))
      ∙ +ℤ_idl z

  -- and none is negative
  pub opened_wholes : is_negative z ≡ false → NoneNegative (opened z ps)
  unfolding opened
  opened_wholes e =
      all_zip (λ u. whole u ≡ pos 0) NonNeg (λ u. NonNeg (whole u)) revised
      (λ u x h n. rw (whole_revised u x, h, +ℤ_idl x) n)
      (map newcomer ps) (prorateZ z amounts (users_of ps))
      (go ps) (shares_nonneg z amounts (users_of ps) e)
    where
      go : (ps : List Pair) → All (λ u. whole u ≡ pos 0) (map newcomer ps)
      go [] = tt
      go (p ∷ ps) = (newcomer_whole p.user, go ps)

-- ---- revise

-- the weights of a revision
abbrev sizes : List User → List ℕ
sizes us = map (λ u. nat_abs (whole u)) us

-- a part of what is taken away leaves something, if it is no more than there is
stays : (w z : ℤ) → NonNeg w → (NonNeg z) ⊎ (nat_abs z ≤ nat_abs w) → NonNeg (w +ℤ z)
stays (negsuc n) z e h = true≢false e
stays (pos n) (pos m) e h = refl
stays (pos n) (negsuc m) e h = ⊎_elim (λ f. true≢false f) (λ l. rw (le-ltb n (suc m) l)) h

-- "a weight is negative" does not hold
pub none_negative : (us : List User) → negative (map whole us) ≡ false → NoneNegative us
none_negative us e =
    all_of_map NonNeg whole us
    (all_map (λ z. not (is_negative z) ≡ true) NonNeg (λ z h. not-true (is_negative z) h) (map whole us)
    (all_every (λ z. not (is_negative z)) (map whole us) (not-false _ e)))

module _ (R : ℤ) (us : List User) where
  pub assigned_long : length us ≡ length (prorateZ R (sizes us) (numbers us))
  assigned_long = sym (lengthZ R (sizes us) (numbers us) ∙ length-map us (λ u. nat_abs (whole u)))

  named_long : length (sizes us) ≤ length (numbers us)
  named_long = omega (arith, length-map us (λ u. nat_abs (whole u)), length-map us (λ (u : User). u.number))

  -- the whole amounts are R more
  pub assigned_sum : distinct (numbers us) ≡ true → 0 < length us → all_whole (assigned R us) ≡ all_whole us +ℤ R
  unfolding assigned
  assigned_sum apart filled =
      revised_sum us (prorateZ R (sizes us) (numbers us)) assigned_long
      ∙ ap (λ z. all_whole us +ℤ z) (shares_sum R (sizes us) (numbers us) apart named_long (omega (arith, length-map us (λ u. nat_abs (whole u)))))

  -- if none is negative, and R takes away no more than there is, none becomes negative
  pub assigned_wholes : NoneNegative us → (is_negative R ≡ true → nat_abs R ≤ total (sizes us)) → NoneNegative (assigned R us)
  unfolding assigned
  assigned_wholes n h =
      all_zip_at revised nobody (pos 0) (λ u. NonNeg (whole u)) us (prorateZ R (sizes us) (numbers us)) assigned_long
      (λ i l.
      let u = get_or us i nobody in
      let z = atZ (prorateZ R (sizes us) (numbers us)) i in
      rw (whole_revised u z) (stays (whole u) z (all_at (λ u. NonNeg (whole u)) nobody us n i l) (part i l)))
    where
      part : (i : ℕ) → i < length us → let z = atZ (prorateZ R (sizes us) (numbers us)) i in (NonNeg z) ⊎ (nat_abs z ≤ nat_abs (whole (get_or us i nobody)))
      part i l =
          ⊎_elim
          (λ p. inr (omega (
            arith,
            map_at (λ u. nat_abs (whole u)) nobody 0 us i l,
            share_capped R (sizes us) (numbers us) i (omega (arith, length-map us (λ u. nat_abs (whole u)))) (h p),
          )))
          (λ p. inl (all_at NonNeg (pos 0) (prorateZ R (sizes us) (numbers us)) (shares_nonneg R (sizes us) (numbers us) p) i (omega (arith, assigned_long))))
          (cases (is_negative R))

-- an assigned revision of a sound day
module _ (d : Day) (s : Sound d) (filled : some d.users ≡ true) (n : NoneNegative d.users) {R : ℤ} (r : R ≡ net d -ℤ all_whole d.users) where
  -- the whole amounts add up to net
  pub revise_sum : all_whole (assigned R d.users) ≡ net d
  revise_sum =
      assigned_sum R d.users s.apart (some_length d.users filled)
      ∙ ap (λ z. all_whole d.users +ℤ z) r
      ∙ fill_up (all_whole d.users) (net d)

  -- and none is negative
  pub revise_wholes : NoneNegative (assigned R d.users)
  revise_wholes =
      assigned_wholes R d.users n
      (λ e. rw difference (deficit (nat_abs (net d)) (total (sizes d.users)) (rw difference at e)))
    where
      difference : R ≡ pos (nat_abs (net d)) -ℤ pos (total (sizes d.users))
      difference = r ∙ ap₂ ◌-ℤ◌ (net_pos d.measurement) (whole_sum d.users n)

  -- so none is above 1,000,000,000
  pub revise_small : Small (assigned R d.users)
  revise_small = small_sum (assigned R d.users) revise_wholes (rw revise_sum (net_small d.measurement s.measurement))
