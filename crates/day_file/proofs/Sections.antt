-- Sections are right if each starts where the one before it has ended, the first after the pairs: one pass tells. Assumes nothing.
use mathlib.Core.Path.{◌≡◌, refl, sym, ap, ◌∙◌}
use mathlib.Core.Bool.{Bool, true, false}
use mathlib.Core.List.{List, [], ◌∷◌}
use Prim.Native.Nat.{ℕ, suc, ◌+◌, ◌-◌, ◌%◌, ◌≤◌, ◌<◌}
use native.Mathlib.Omega.{arith}
use native.Mathlib.Numerals.{add-one}
use lib.Dec.{leb, eqb}
use lib.ListN.{length, drop, drop_of_length-le}
use lib.Seq.{drop-cons}
use borrow.Author.Tests.{leb-true, le-leb, lt-leb}
use Rattle.numbers.specs.Lists.{both, every}
use Rattle.numbers.proofs.Sums.{length_table, getD_table}
use Rattle.numbers.proofs.Lists.{All, all_every, every_all, all_map, all_map₂, both_fst, both_snd, both_true, both_none}
use Rattle.day_file.specs.declared.Section.{Section}
use Rattle.day_file.specs.Form.{USER, LINE, pair_count, pairs_start, pairs_end, section_from, section_at, sections, end_of, is_whole, sorted, are_apart, none_overlap, sections_right}

-- two tests that hold together are the same
pub same_truth : (p q : Bool) → (p ≡ true → q ≡ true) → (q ≡ true → p ≡ true) → p ≡ q
same_truth true q h k = sym (h refl)
same_truth false true h k = k refl
same_truth false false h k = refl

-- whole sections that end at n at the latest, the first from a place on, each other from the end of the one before on
unfoldable pub chained : ℕ → ℕ → List Section → Bool
chained n from [] = true
chained n from (s ∷ ss) = both (leb from s.offset) (both (is_whole s) (both (leb (end_of s) n) (chained n (end_of s) ss)))

-- a section of such a chain
record Piece (n from : ℕ) (s : Section) : Type 0 where
  start : from ≤ s.offset
  whole : is_whole s ≡ true
  inside : end_of s ≤ n

module _ (n : ℕ) where
  -- the tests of the first section, and the rest
  head : (from : ℕ) (s : Section) (ss : List Section) → chained n from (s ∷ ss) ≡ true → Piece n from s
  unfolding chained
  head from s ss e =
      let h = both_snd (leb from s.offset) _ e in
      record {
        start = leb-true from s.offset (both_fst (leb from s.offset) _ e);
        whole = both_fst (is_whole s) _ h;
        inside = leb-true (end_of s) n (both_fst (leb (end_of s) n) _ (both_snd (is_whole s) _ h));
      }

  rest : (from : ℕ) (s : Section) (ss : List Section) → chained n from (s ∷ ss) ≡ true → chained n (end_of s) ss ≡ true
  unfolding chained
  rest from s ss e = both_snd (leb (end_of s) n) _ (both_snd (is_whole s) _ (both_snd (leb from s.offset) _ e))

  pieces : (from : ℕ) (ss : List Section) → chained n from ss ≡ true → All (Piece n from) ss
  pieces from [] e = tt
  pieces from (s ∷ ss) e =
      let h = head from s ss e in (
        h,
        all_map (Piece n (end_of s)) (Piece n from) (λ t k. record { start = omega (arith, h.start, k.start); whole = k.whole; inside = k.inside }) ss
            (pieces (end_of s) ss (rest from s ss e)),
      )

  chain_sorted : (from : ℕ) (ss : List Section) → chained n from ss ≡ true → sorted ss ≡ true
  unfolding sorted
  chain_sorted from [] e = refl
  chain_sorted from (s ∷ []) e = refl
  chain_sorted from (s ∷ (t ∷ ss)) e =
      let h = rest from s (t ∷ ss) e in
      both_true (le-leb s.offset t.offset (omega (arith, (head (end_of s) t ss h).start))) (chain_sorted (end_of s) (t ∷ ss) h)

  chain_apart : (from : ℕ) (ss : List Section) → chained n from ss ≡ true → none_overlap ss ≡ true
  unfolding none_overlap
  chain_apart from [] e = refl
  chain_apart from (s ∷ ss) e =
      let h = rest from s ss e in
      both_true (every_all (are_apart s) ss (all_map (Piece n (end_of s)) _ (λ t k. rw (le-leb (end_of s) t.offset k.start)) ss (pieces (end_of s) ss h)))
      (chain_apart (end_of s) ss h)

-- sorted: none starts before the first
sorted_from : (s : Section) (ss : List Section) → sorted (s ∷ ss) ≡ true → All (λ t. s.offset ≤ t.offset) ss
unfolding sorted
sorted_from s [] e = tt
sorted_from s (t ∷ ss) e =
    let l = leb-true s.offset t.offset (both_fst (leb s.offset t.offset) _ e) in
    (l, all_map (λ u. t.offset ≤ u.offset) (λ u. s.offset ≤ u.offset) (λ u k. omega arith) ss (sorted_from t ss (both_snd (leb s.offset t.offset) _ e)))

sorted_rest : (s : Section) (ss : List Section) → sorted (s ∷ ss) ≡ true → sorted ss ≡ true
unfolding sorted
sorted_rest s [] e = refl
sorted_rest s (t ∷ ss) e = both_snd (leb s.offset t.offset) _ e

-- a whole section that starts no earlier and shares no byte starts after the end
after_end : (s t : Section) → s.offset ≤ t.offset → is_whole t ≡ true → are_apart s t ≡ true → leb (end_of s) t.offset ≡ true
after_end s t l w e = go (leb (end_of s) t.offset) refl
  where
    go : (b : Bool) → leb (end_of s) t.offset ≡ b → b ≡ true
    go true h = refl
    go false h =
        let k : leb (end_of t) s.offset ≡ true = rw h at e in
        absurd (omega (arith, leb-true (end_of t) s.offset k, leb-true USER t.size (both_fst (leb USER t.size) _ w)))

module _ (n : ℕ) where
  chain_back : (from : ℕ) (ss : List Section) → every is_whole ss ≡ true → sorted ss ≡ true → none_overlap ss ≡ true
      → every (λ s. leb from s.offset) ss ≡ true → every (λ s. leb (end_of s) n) ss ≡ true → chained n from ss ≡ true
  unfolding chained every none_overlap
  chain_back from [] w o a b i = refl
  chain_back from (s ∷ ss) w o a b i =
      both_true (both_fst (leb from s.offset) _ b)
      (both_true (both_fst (is_whole s) _ w)
      (both_true (both_fst (leb (end_of s) n) _ i)
      (chain_back (end_of s) ss whole (sorted_rest s ss o) (both_snd (every (are_apart s) ss) _ a) start (both_snd (leb (end_of s) n) _ i))))
    where
      whole : every is_whole ss ≡ true
      whole = both_snd (is_whole s) _ w

      apart : All (λ t. are_apart s t ≡ true) ss
      apart = all_every (are_apart s) ss (both_fst (every (are_apart s) ss) _ a)

      start : every (λ t. leb (end_of s) t.offset) ss ≡ true
      start =
          every_all (λ t. leb (end_of s) t.offset) ss
          (all_map₂ (λ t. (s.offset ≤ t.offset) × (is_whole t ≡ true)) (λ t. are_apart s t ≡ true) _ (λ t h k. after_end s t h.0 h.1 k) ss
          (all_map₂ (λ t. s.offset ≤ t.offset) (λ t. is_whole t ≡ true) _ (λ t h k. (h, k)) ss (sorted_from s ss o) (all_every is_whole ss whole)) apart)

-- the one pass tells what the definition says
pub chained_right : (f : List ℕ) (ss : List Section) → chained (length f) (pairs_end f) ss ≡ sections_right f ss
unfolding sections_right
chained_right f ss = same_truth (chained (length f) (pairs_end f) ss) (sections_right f ss) there back
  where
    there : chained (length f) (pairs_end f) ss ≡ true → sections_right f ss ≡ true
    there e =
        let h = pieces (length f) (pairs_end f) ss e in
        both_true (every_all is_whole ss (all_map (Piece (length f) (pairs_end f)) _ (λ s k. k.whole) ss h))
        (both_true (chain_sorted (length f) (pairs_end f) ss e)
        (both_true (chain_apart (length f) (pairs_end f) ss e)
        (both_true (every_all _ ss (all_map (Piece (length f) (pairs_end f)) (λ s. leb (pairs_end f) s.offset ≡ true) (λ s k. le-leb (pairs_end f) s.offset k.start) ss h))
        (every_all _ ss (all_map (Piece (length f) (pairs_end f)) (λ s. leb (end_of s) (length f) ≡ true) (λ s k. le-leb (end_of s) (length f) k.inside) ss h)))))

    back : sections_right f ss ≡ true → chained (length f) (pairs_end f) ss ≡ true
    back e =
        let e₁ = both_snd (every is_whole ss) _ e in
        let e₂ = both_snd (sorted ss) _ e₁ in
        let e₃ = both_snd (none_overlap ss) _ e₂ in
        chain_back (length f) (pairs_end f) ss (both_fst (every is_whole ss) _ e) (both_fst (sorted ss) _ e₁) (both_fst (none_overlap ss) _ e₂)
        (both_fst (every (λ s. leb (pairs_end f) s.offset) ss) _ e₃) (both_snd (every (λ s. leb (pairs_end f) s.offset) ss) _ e₃)

-- ---- the steps of the pass

module _ (f : List ℕ) where
  pub next_section : (i : ℕ) → i < pair_count f → drop i (sections f) ≡ section_at f i ∷ drop (i + 1) (sections f)
  next_section i l =
      rw (add-one i)
      (drop-cons (sections f) i (section_at f i) (omega (arith, length_table (section_at f) (pair_count f)))
      ∙ ap (λ s. s ∷ drop (suc i) (sections f)) (getD_table (section_at f) (pair_count f) i (section_at f i) l))

  -- what is left of the pass at section i, if it is to start at `from`
  abbrev pub Left : ℕ → ℕ → Bool
  Left from i = chained (length f) from (drop i (sections f))

  -- the pass tells b, so b is the answer
  pub tells : (from i : ℕ) {b : Bool} → Left (pairs_end f) 0 ≡ Left from i → Left from i ≡ b → b ≡ sections_right f (sections f)
  tells from i h e = sym (h ∙ e) ∙ chained_right f (sections f)

  pub none_left : (from i : ℕ) → i ≡ pair_count f → Left from i ≡ true
  unfolding chained
  none_left from i e = rw (drop_of_length-le (sections f) {i = i} (omega (arith, length_table (section_at f) (pair_count f))))

  -- a pair read where the pairs begin
  pub from_pairs : (start i : ℕ) {s : Section} → s ≡ section_from f start i → start ≡ pairs_start f → s ≡ section_at f i
  from_pairs start i e q = e ∙ ap (λ n. section_from f n i) q

  module _ (from i o z : ℕ) (l : i < pair_count f) (eo : o ≡ (section_at f i).offset) (ez : z ≡ (section_at f i).size) where
    step : Left from i ≡ both (leb from o) (both (both (leb USER z) (eqb ((z - USER) % LINE) 0)) (both (leb (o + z) (length f)) (Left (o + z) (i + 1))))
    unfolding chained
    step = rw (next_section i l, eo, ez)

    pub too_early : o < from → Left from i ≡ false
    too_early h = step ∙ rw (lt-leb from o h)

    pub not_whole : both (leb USER z) (eqb ((z - USER) % LINE) 0) ≡ false → Left from i ≡ false
    not_whole h = step ∙ rw (h, both_none (leb from o))

    pub outside : length f < o + z → Left from i ≡ false
    outside h = step ∙ rw (lt-leb (o + z) (length f) h, both_none (both (leb USER z) (eqb ((z - USER) % LINE) 0)), both_none (leb from o))

    pub goes_on : from ≤ o → both (leb USER z) (eqb ((z - USER) % LINE) 0) ≡ true → o + z ≤ length f → Left from i ≡ Left (o + z) (i + 1)
    goes_on h k m = step ∙ rw (le-leb from o h, k, le-leb (o + z) (length f) m)
