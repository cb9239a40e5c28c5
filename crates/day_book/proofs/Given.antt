-- Every share that a call gave is less than 1 kWh from its exact proportion by the book's weights. Assumes nothing.
use mathlib.Core.Path.{◌≡◌, refl, sym, ap, ◌∙◌, subst, subst⁻¹}
use mathlib.Core.Bool.{Bool, true, false, not}
use mathlib.Core.List.{List, [], ◌∷◌, ◌++◌, map}
use Prim.Native.Nat.{ℕ, ◌<◌}
use native.Mathlib.Omega.{arith}
use lib.Dec.{eqb}
use lib.IntN.{ℤ, pos, nat_abs, ◌+ℤ◌, ◌-ℤ◌, +ℤ_comm, +ℤ-neg_ℤ_cancel}
use lib.ListN.{length, replicate, length-map}
use Rattle.numbers.specs.Sums.{pick, at, atZ, total, totalZ}
use Rattle.numbers.specs.Lists.{both, either, has, distinct}
use Rattle.numbers.proofs.Lists.{All, never, either_fst, distinct_is}
use Rattle.proration.specs.Proration.{counted, prorateZ}
use Rattle.proration.proofs.Signs.{totalZ_is}
use Rattle.proration.proofs.Fairness.{share_near}
use Rattle.point_day.specs.Calls.{Pair, Verdict, refuse, accept, within_tolerance, revision_assigned}
use Rattle.point_day.specs.declared.PointDay.{PointDay}
use Rattle.point_day.proofs.Each.{all_at, at_all, map_at}
use Rattle.point_day.proofs.Good.{accepted}
use Rattle.day_book.specs.Run.{Call, join, line, lent_line, measure, allot, stand_in, revise, start_final}
use Rattle.day_book.specs.Book.{Book, kinds, net, whole, R, part, to_balance, user_weight, kind_weight, user_share, kind_share}
use Rattle.day_book.specs.Book.{allotted, users_in, used_row, row_weight, stood_in, tolerated, gains, assigned}
use Rattle.day_book.specs.Book.{some_negative, refusals, book_verdict, by_verdict}
use Rattle.day_book.specs.Arrays.{balance_at, user_balance, SameUser, Holds}
use Rattle.day_book.specs.Shares.{counts, LessThan1, Near, EachUser, AllotShared, StandInShared, ReviseShared, assigns, CallShared}
use Rattle.day_book.specs.Book.{answer_by}
use Rattle.day_book.proofs.Parties.{all_has, parts_all}
use Rattle.day_book.proofs.Lines.{five_eq}
use Rattle.day_book.proofs.Agreeing.{Kept, users_apart}
use Rattle.day_book.proofs.Sharing.{five_apart, row_apart, no_users}
use Rattle.day_book.proofs.Books.{passed}

-- ---- shares of a split, by parties

module _ (A : ℤ) (weight : ℕ → ℕ) (ps : List ℕ) (apart : distinct ps ≡ true) where
  -- "If all weights are zero, each counts as 1"
  counts_are : counted (map weight ps) ≡ map (counts weight ps) ps
  unfolding counted counts
  counts_are = go (eqb (total (map weight ps)) 0)
    where
      ones : (ps : List ℕ) → replicate {A = ℕ} (length (map weight ps)) 1 ≡ map (λ p. 1) ps
      ones [] = refl
      ones (p ∷ ps) = ap (λ t. 1 ∷ t) (ones ps)

      go : (q : Bool) → pick q (replicate (length (map weight ps)) 1) (map weight ps) ≡ map (λ p. pick q 1 (weight p)) ps
      go true = ones ps
      go false = refl

  near_at : (i : ℕ) → i < length ps → Near A weight ps (at ps i) (part A weight ps (at ps i))
  near_at i l =
      let W = total (map (counts weight ps) ps) in
      let x : atZ (prorateZ A (map weight ps) ps) i ≡ part A weight ps (at ps i) =
      ap (λ zs. atZ zs i) (sym (parts_all A weight ps apart)) ∙ map_at (part A weight ps) 0 (pos 0) ps i l in
      let w : at (map (counts weight ps) ps) i ≡ counts weight ps (at ps i) = map_at (counts weight ps) 0 0 ps i l in
      subst (λ x. LessThan1 A W (counts weight ps (at ps i)) x) x
      (subst (λ w. LessThan1 A W w (atZ (prorateZ A (map weight ps) ps) i)) w
      (subst (λ ws. LessThan1 A (total ws) (at ws i) (atZ (prorateZ A (map weight ps) ps) i)) counts_are
      (share_near A (map weight ps) ps i (omega (arith, length-map ps weight)))))

  pub all_near : All (λ p. Near A weight ps p (part A weight ps p)) ps
  all_near = at_all (λ p. Near A weight ps p (part A weight ps p)) 0 ps near_at

-- shares add up
kinds_sum : (b : Book) (n : ℕ) → totalZ (map (kind_share b n) kinds) ≡ user_share b n
kinds_sum b n =
    ap totalZ (parts_all (user_share b n) (kind_weight b n) kinds five_apart)
    ∙ totalZ_is (user_share b n) (map (kind_weight b n) kinds) kinds (omega arith) (distinct_is kinds five_apart) (omega arith)

-- ---- every user of a point-day that holds what a book does

module _ (d : PointDay) (b : Book) (same : Holds d b) where
  -- what is so of each of the book's users, at its place
  each : (Q : ℕ → ℕ → Type 0) (P : ℕ → Type 0) → ((s n : ℕ) → SameUser d s b n → P n → Q s n) → All P b.users → EachUser d Q
  each Q P f all s l =
      let k : s < length b.users = omega (arith, same.count) in
      let u = same.users s k in
      subst⁻¹ (Q s) u.number (f s (at b.users s) u (all_at P 0 b.users all s k))

  kinds_same : (s n : ℕ) → SameUser d s b n → map (balance_at d s) kinds ≡ map (b.balance n) kinds
  unfolding has
  kinds_same s n u = five_eq (u.balance 1 refl) (u.balance 2 refl) (u.balance 3 refl) (u.balance 4 refl) (u.balance 5 refl)

-- ---- the three calls

all_of : {P : ℕ → Type 0} → ((n : ℕ) → P n) → (ns : List ℕ) → All P ns
all_of f [] = tt
all_of f (n ∷ ns) = (f n, all_of f ns)

gained : (r z : ℤ) → (r +ℤ z) -ℤ r ≡ z
gained r z = ap (λ y. y -ℤ r) (+ℤ_comm r z) ∙ +ℤ-neg_ℤ_cancel z r

module _ (b : Book) (h : Kept b) where
  -- a kind's share x of its user's share z
  abbrev KindNear : ℕ → ℕ → ℤ → ℤ → Type 0
  KindNear n kind z x = Near z (kind_weight b n) kinds kind x

  kinds_near : (n kind : ℕ) → has kind kinds ≡ true → KindNear n kind (totalZ (map (kind_share b n) kinds)) (kind_share b n kind)
  kinds_near n kind e =
      subst⁻¹ (λ z. KindNear n kind z (kind_share b n kind)) (kinds_sum b n)
      (all_has (λ kind. KindNear n kind (user_share b n) (kind_share b n kind)) kinds
      (all_near (user_share b n) (kind_weight b n) kinds five_apart) kind e)

  allot_shared : (d : PointDay) → Holds d (allotted b) → AllotShared b d
  unfolding allotted
  allot_shared d same = record {
    balance =
        each d (allotted b) same _ (λ n. Near (to_balance b) (user_weight b) b.users n (user_share b n))
        (λ s n u k. subst⁻¹ (λ z. Near (to_balance b) (user_weight b) b.users n z)
        (ap totalZ (kinds_same d (allotted b) same s n u) ∙ kinds_sum b n) k)
        (all_near (to_balance b) (user_weight b) b.users (users_apart b h));
    of_kinds =
        each d (allotted b) same
        (λ s n. (kind : ℕ) → has kind kinds ≡ true → KindNear n kind (user_balance d s) (balance_at d s kind))
        (λ n. (kind : ℕ) → has kind kinds ≡ true → KindNear n kind (totalZ (map (kind_share b n) kinds)) (kind_share b n kind))
        (λ s n u k kind e.
        subst⁻¹ (KindNear n kind (user_balance d s)) (u.balance kind e)
        (subst⁻¹ (λ zs. KindNear n kind (totalZ zs) (kind_share b n kind)) (kinds_same d (allotted b) same s n u) (k kind e)))
        (all_of kinds_near b.users);
  }

  stand_in_shared : (rows : List (List Pair)) → book_verdict (stand_in rows) b ≡ accept
      → (d : PointDay) → Holds d (stood_in rows b) → StandInShared (used_row rows) b d
  unfolding stood_in
  stand_in_shared rows v d same =
      let ps = used_row rows in
      let ns = users_in ps in
      record {
        weights = unfold refusals in (accepted (refusals (stand_in rows) b) v).1.1.1.1.1.1.1.1.1.1.0;
        revision =
            each d (stood_in rows b) same _ (λ n. Near (net b) (row_weight ps) ns n (part (net b) (row_weight ps) ns n))
            (λ s n u k. subst⁻¹ (Near (net b) (row_weight ps) ns n) u.revision k)
            (subst⁻¹ (λ ms. All (λ n. Near (net b) (row_weight ps) ns n (part (net b) (row_weight ps) ns n)) (ms ++ ns))
            (no_users rows b h (passed b h (stand_in rows) v))
            (all_near (net b) (row_weight ps) ns (row_apart rows b h (passed b h (stand_in rows) v))));
      }

  abbrev sizes : ℕ → ℕ
  sizes n = nat_abs (whole b n)

  assigned_shared : book_verdict revise b ≡ accept → tolerated b ≡ false → (d : PointDay) → Holds d (assigned b) → ReviseShared b d
  unfolding assigned
  assigned_shared v t d same = record {
    weights =
        unfold refusals in
        either_fst (some_negative (map (whole b) b.users)) false
        (ap (λ p. either (both (not p) (some_negative (map (whole b) b.users))) false) (sym t)
        ∙ (accepted (refusals revise b) v).1.1.1.1.1.1.1.1.1.1.0);
    revision =
        each d (assigned b) same _ (λ n. Near (R b) sizes b.users n (gains b n))
        (λ s n u k. subst⁻¹ (Near (R b) sizes b.users n) (ap (λ z. z -ℤ b.revision n) u.revision ∙ gained (b.revision n) (gains b n)) k)
        (all_near (R b) sizes b.users (users_apart b h));
  }

  -- ---- a call, by the book's verdict

  revise_shared : book_verdict revise b ≡ accept → (p : Bool) → tolerated b ≡ p → (d : PointDay) → Holds d (pick p b (assigned b))
      → assigns (pick p (within_tolerance (R b)) (revision_assigned (R b))) ≡ true → ReviseShared b d
  revise_shared v true t d same a = never a
  revise_shared v false t d same a = assigned_shared v t d same

  pub shared_by : (c : Call) (v : Verdict) → book_verdict c b ≡ v → (d : PointDay) → Holds d (by_verdict v c b)
      → CallShared c (answer_by v c b) b d
  shared_by (join n) v e d same = tt
  shared_by (line n kind c k) v e d same = tt
  shared_by (lent_line n kind c k) v e d same = tt
  shared_by (measure emission downstream) v e d same = tt
  shared_by allot (refuse n) e d same = λ a. never a
  shared_by allot accept e d same = λ a. allot_shared d same
  shared_by (stand_in rows) (refuse n) e d same = λ a. never a
  shared_by (stand_in rows) accept e d same = λ a. stand_in_shared rows e d same
  shared_by revise (refuse n) e d same = λ a. never a
  shared_by revise accept e d same = revise_shared e (tolerated b) refl d same
  shared_by start_final v e d same = tt
