-- A taken point-day by plain facts: what the sentence of document 01 leaves. Assumes nothing.
use mathlib.Core.Path.{◌≡◌, refl, sym, ap}
use mathlib.Core.Bool.{Bool, true, false, not}
use mathlib.Core.List.{List, [], ◌∷◌}
use Prim.Native.Nat.{◌*◌, ◌≤◌}
use lib.Dec.{eqb}
use lib.ListN.{drop}
use borrow.Author.Tests.{ltb-false, le-ltb, leb-true, le-leb, not-true}
use Rattle.numbers.specs.Lists.{both, either, every, has, distinct}
use Rattle.numbers.proofs.Lists.{All, true≢false, both_fst, both_snd, both_true, either_fst, either_snd}
use Rattle.point_day.specs.Limits.{USERS, KINDS, LIMIT}
use Rattle.point_day.specs.Day.{numbers, all_offtake, all_whole, is_measured, some, measurement_right, too_large}
use Rattle.point_day.specs.Struct.{read, none_past, empty_past, none_below, offtake_right, unallotted, amounts_right, sum_right, any, faults, taken}
use Rattle.point_day.specs.declared.PointDay.{PointDay}

-- nothing stands past the last user
pub record Past (d : PointDay) : Type 0 where
  pub users : every (λ n. eqb n 0) (drop d.count d.users) ≡ true
  pub consumption : none_past (KINDS * d.count) d.consumption ≡ true
  pub losses : none_past (KINDS * d.count) d.losses ≡ true
  pub balance : none_past (KINDS * d.count) d.balance ≡ true
  pub revision : none_past d.count d.revision ≡ true

pub record Taken (d : PointDay) : Type 0 where
  pub few : d.count ≤ USERS
  pub named : has 0 (numbers (read d).users) ≡ false
  pub apart : distinct (numbers (read d).users) ≡ true
  pub past : Past d
  pub measurement : measurement_right d.measurement ≡ true
  pub consumption : none_below d.consumption ≡ true
  pub losses : none_below d.losses ≡ true
  pub offtake : all_offtake (read d).users ≤ LIMIT
  pub entering : d.allotted ≡ false → every unallotted (read d).users ≡ true
  pub amounts : every amounts_right (read d).users ≡ true
  pub wholes : too_large (read d).users ≡ false
  pub sum : sum_right (all_whole (read d).users) ≡ true
  pub standing : d.allotted ≡ true → (some (read d).users ≡ true) × (is_measured d.measurement ≡ true)

-- ---- lists of conditions

either_false : {p q : Bool} → p ≡ false → q ≡ false → either p q ≡ false
either_false e f = rw (e, f)

none_hold : (bs : List Bool) → any bs ≡ false → All (λ b. b ≡ false) bs
unfolding any
none_hold [] e = tt
none_hold (b ∷ bs) e = (either_fst b (any bs) e, none_hold bs (either_snd b (any bs) e))

hold_none : (bs : List Bool) → All (λ b. b ≡ false) bs → any bs ≡ false
unfolding any
hold_none [] h = refl
hold_none (b ∷ bs) h = either_false h.0 (hold_none bs h.1)

not_is : (b : Bool) → not b ≡ false → b ≡ true
not_is true e = refl
not_is false e = true≢false e

-- of a condition that is both p and not q, and does not hold
unless : (p q : Bool) → both p (not q) ≡ false → p ≡ true → q ≡ true
unless true true e h = refl
unless true false e h = true≢false e
unless false q e h = true≢false (sym h)

unless_back : (p q : Bool) → (p ≡ true → q ≡ true) → both p (not q) ≡ false
unless_back true q h = rw (h refl)
unless_back false q h = refl

-- ---- the facts

module _ (d : PointDay) where
  past_facts : empty_past d ≡ true → Past d
  past_facts e =
      let e₁ = both_snd (every (λ n. eqb n 0) (drop d.count d.users)) _ e in
      let e₂ = both_snd (none_past (KINDS * d.count) d.consumption) _ e₁ in
      let e₃ = both_snd (none_past (KINDS * d.count) d.losses) _ e₂ in
      record {
        users = both_fst (every (λ n. eqb n 0) (drop d.count d.users)) _ e;
        consumption = both_fst (none_past (KINDS * d.count) d.consumption) _ e₁;
        losses = both_fst (none_past (KINDS * d.count) d.losses) _ e₂;
        balance = both_fst (none_past (KINDS * d.count) d.balance) _ e₃;
        revision = both_snd (none_past (KINDS * d.count) d.balance) _ e₃;
      }

  facts_past : Past d → empty_past d ≡ true
  facts_past h = rw (h.users, h.consumption, h.losses, h.balance, h.revision)

  pub taken_facts : taken d ≡ true → Taken d
  unfolding taken faults
  taken_facts e =
      let h = none_hold (faults d) (not-true (any (faults d)) e) in
      let us = (read d).users in
      let offtake = not_is (offtake_right d) (either_snd (not (measurement_right d.measurement)) _ h.1.1.1.0) in
      let rest = both_snd (none_below d.consumption) _ offtake in
      record {
        few = ltb-false USERS d.count h.0;
        named = either_fst (has 0 (numbers us)) _ h.1.0;
        apart = not_is _ (either_snd (has 0 (numbers us)) _ h.1.0);
        past = past_facts (not_is _ h.1.1.0);
        measurement = not_is _ (either_fst (not (measurement_right d.measurement)) _ h.1.1.1.0);
        consumption = both_fst (none_below d.consumption) _ offtake;
        losses = both_fst (none_below d.losses) _ rest;
        offtake = leb-true (all_offtake us) LIMIT (both_snd (none_below d.losses) _ rest);
        entering = λ f. unless (not d.allotted) (every unallotted us) h.1.1.1.1.0 (rw f);
        amounts = not_is _ (either_fst (not (every amounts_right us)) _ h.1.1.1.1.1.0);
        wholes = either_snd (not (every amounts_right us)) _ h.1.1.1.1.1.0;
        sum = not_is _ h.1.1.1.1.1.1.0;
        standing = λ f.
            let s = unless d.allotted (both (some us) (is_measured d.measurement)) h.1.1.1.1.1.1.1.0 f in
            (both_fst (some us) _ s, both_snd (some us) _ s);
      }

  pub facts_taken : Taken d → taken d ≡ true
  unfolding taken faults
  facts_taken t =
      let us = (read d).users in
      ap not (hold_none (faults d) (
        le-ltb USERS d.count t.few,
        (
          either_false t.named (ap not t.apart),
          (
            ap not (facts_past t.past),
            (
              either_false (ap not t.measurement) (ap not offtake),
              (
                unless_back (not d.allotted) (every unallotted us) (λ f. t.entering (not-true d.allotted f)),
                (
                  either_false (ap not t.amounts) t.wholes,
                  (
                    ap not t.sum,
                    (
                      unless_back d.allotted (both (some us) (is_measured d.measurement)) (λ f. both_true (t.standing f).0 (t.standing f).1),
                      tt,
                    ),
                  ),
                ),
              ),
            ),
          ),
        ),
      ))
    where
      offtake : offtake_right d ≡ true
      offtake = rw (t.consumption, t.losses, le-leb (all_offtake (read d).users) LIMIT t.offtake)
