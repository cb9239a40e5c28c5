-- The invariant of the days that calls reach from fresh: such a day, laid out, is taken. Assumes nothing.
use mathlib.Core.Path.{◌≡◌, refl, sym, ap, subst, subst⁻¹}
use mathlib.Core.Bool.{Bool, true, false}
use mathlib.Core.List.{List, [], ◌∷◌}
use Prim.Native.Nat.{ℕ, ◌≤◌}
use native.Mathlib.Omega.{arith}
use lib.Dec.{leb}
use lib.IntN.{ℤ, nat_abs}
use lib.ListN.{length}
use borrow.Author.Tests.{le-leb, leb-true, ne_eqb}
use Rattle.numbers.specs.Sums.{pick, totalZ}
use Rattle.numbers.specs.Lists.{every, has, distinct}
use Rattle.numbers.proofs.Lists.{All, both_true, all_map, all_map₂, every_all, never}
use Rattle.point_day.specs.Limits.{USERS, LIMIT, AMOUNT}
use Rattle.point_day.specs.Day.{User, Day, numbers, offtake, all_offtake, whole, all_whole, is_measured, some, no_more, is_zero, measurement_right}
use Rattle.point_day.specs.Calls.{Test, refuse, accept, verdict}
use Rattle.point_day.specs.Struct.{read, laid, unallotted, amounts_right, sum_right, taken}
use Rattle.point_day.specs.declared.Measurement.{Measurement}
use Rattle.point_day.proofs.Taken.{Taken, facts_taken}
use Rattle.point_day.proofs.Arrays.{Full, read_laid, past_laid, consumption_laid, losses_laid}
use Rattle.point_day.proofs.Each.{all_parts}
use Rattle.point_day.proofs.Sound.{Bare, Sound, bare_whole, bare_all}
use Rattle.point_day.proofs.Wholes.{Small, small_right}
use Rattle.std.specs.Prelude.{Option}

-- of a user, in every stage. A user's balance is at most 1,000,000,000 in size over all kinds: so the revision that brings its whole
-- amount into 0 to 1,000,000,000 stays below 2,000,000,000.
pub record Formed (u : User) : Type 0 where
  pub full : Full u
  pub number : leb 1 u.number ≡ true
  pub cells : every (no_more AMOUNT) u.balance ≡ true
  pub balance : nat_abs (totalZ u.balance) ≤ LIMIT

abbrev pub Revised : User → Type 0
Revised u = nat_abs u.revision ≤ AMOUNT

-- of a day that stands allotted, with the settled net
pub record Settled (us : List User) (m : Option Measurement) (settled : ℤ) : Type 0 where
  pub some_user : some us ≡ true
  pub measured : is_measured m ≡ true
  pub adds_up : all_whole us ≡ settled
  pub range : sum_right settled ≡ true

abbrev pub Standing : Bool → List User → Option Measurement → ℤ → Type 0
Standing true us m settled = Settled us m settled
Standing false us m settled = All Bare us

pub record Good (d : Day) (settled : ℤ) : Type 0 where
  pub few : length d.users ≤ USERS
  pub apart : distinct (numbers d.users) ≡ true
  pub measurement : measurement_right d.measurement ≡ true
  pub formed : All Formed d.users
  pub revisions : All Revised d.users
  pub wholes : Small d.users
  pub sum : all_offtake d.users ≤ LIMIT
  pub standing : Standing d.allotted d.users d.measurement settled

-- ---- while entering

pub entering : (d : Day) (s : ℤ) → Good d s → d.allotted ≡ false → All Bare d.users
entering d s g e = subst (λ b. Standing b d.users d.measurement s) e g.standing

-- a day whose users are bare
pub bare_good : (d : Day) (s : ℤ) → d.allotted ≡ false → length d.users ≤ USERS → distinct (numbers d.users) ≡ true
    → measurement_right d.measurement ≡ true → All Formed d.users → All Bare d.users → all_offtake d.users ≤ LIMIT → Good d s
bare_good d s e few apart m formed bare sum = record {
  few = few;
  apart = apart;
  measurement = m;
  formed = formed;
  revisions = all_map Bare Revised (λ u b. rw b.revision (omega arith)) d.users bare;
  wholes =
      all_map₂ Bare (λ u. offtake u ≤ LIMIT) (λ u. nat_abs (whole u) ≤ LIMIT) (λ u b k. rw (bare_whole u b) k) d.users bare
      (all_parts offtake d.users LIMIT sum);
  sum = sum;
  standing = subst⁻¹ (λ b. Standing b d.users d.measurement s) e bare;
}

-- ---- while allotted

pub allotted : (d : Day) (s : ℤ) → Good d s → d.allotted ≡ true → Settled d.users d.measurement s
allotted d s g e = subst (λ b. Standing b d.users d.measurement s) e g.standing

-- ---- a good day, laid out, is taken, and is read back

no_zero : (us : List User) → All Formed us → has 0 (numbers us) ≡ false
unfolding has
no_zero [] h = refl
no_zero (u ∷ us) h = rw (ne_eqb 0 u.number (λ e. omega (arith, leb-true 1 u.number h.0.number))) (no_zero us h.1)

module _ (d : Day) (s : ℤ) (g : Good d s) where
  pub all_full : All Full d.users
  all_full = all_map Formed Full (λ u f. f.full) d.users g.formed

  pub good_sound : Sound d
  good_sound = record { apart = g.apart; measurement = g.measurement; full = all_full; sum = g.sum; entering = entering d s g }

  pub read_good : read (laid d) ≡ d
  read_good = read_laid d all_full

  unallotted_good : (p : Bool) → p ≡ false → Standing p d.users d.measurement s → every unallotted d.users ≡ true
  unallotted_good true e h = never (sym e)
  unallotted_good false e h =
      every_all unallotted d.users
      (all_map Bare _ (λ u b. both_true {p = every is_zero u.balance} b.balance (ap is_zero b.revision)) d.users h)

  amounts_good : every amounts_right d.users ≡ true
  amounts_good =
      every_all amounts_right d.users
      (all_map₂ Formed Revised _
      (λ u f r. both_true {p = every (no_more AMOUNT) u.balance} f.cells (le-leb (nat_abs u.revision) AMOUNT r))
      d.users g.formed g.revisions)

  sum_good : (p : Bool) → Standing p d.users d.measurement s → sum_right (all_whole d.users) ≡ true
  sum_good true h = rw h.adds_up h.range
  sum_good false h = rw (bare_all d.users h) (le-leb (all_offtake d.users) LIMIT g.sum)

  standing_good : (p : Bool) → p ≡ true → Standing p d.users d.measurement s → (some d.users ≡ true) × (is_measured d.measurement ≡ true)
  standing_good true e h = (h.some_user, h.measured)
  standing_good false e h = never e

  facts_good : Taken (laid d)
  facts_good = record {
    few = unfold laid in g.few;
    named = rw read_good (no_zero d.users g.formed);
    apart = rw read_good g.apart;
    past = past_laid d all_full;
    measurement = unfold laid in g.measurement;
    consumption = consumption_laid d all_full;
    losses = losses_laid d all_full;
    offtake = rw read_good g.sum;
    entering = λ e. rw read_good (unallotted_good d.allotted (unfold laid in e) g.standing);
    amounts = rw read_good amounts_good;
    wholes = rw read_good (small_right d.users g.wholes);
    sum = rw read_good (sum_good d.allotted g.standing);
    standing = λ e. rw read_good (unfold laid in standing_good d.allotted e g.standing);
  }

  pub taken_good : taken (laid d) ≡ true
  taken_good = facts_taken (laid d) facts_good

-- ---- an accepted call has passed each test

pub accepted : (ts : List Test) → verdict ts ≡ accept → All (λ t. t.holds ≡ false) ts
unfolding verdict
accepted [] e = tt
accepted (t ∷ ts) e = go t.holds refl e (accepted ts)
  where
    go : (p : Bool) → t.holds ≡ p → pick p (refuse t.number) (verdict ts) ≡ accept
        → (verdict ts ≡ accept → All (λ t. t.holds ≡ false) ts) → (t.holds ≡ false) × All (λ t. t.holds ≡ false) ts
    go true h f r = absurd (let z : ◌≡◌ {A = ℕ} 0 1 = cc in omega arith)
    go false h f r = (h, r f)
