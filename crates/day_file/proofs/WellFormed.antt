-- What each test of a day file settles. Assumes nothing.
use mathlib.Core.Path.{◌≡◌, sym, ap, ◌∙◌}
use mathlib.Core.Bool.{Bool, true, false}
use mathlib.Core.List.{List}
use Prim.Native.Nat.{ℕ, ◌+◌, ◌*◌, ◌≤◌, ◌<◌}
use native.Mathlib.Omega.{arith}
use lib.Dec.{leb}
use lib.ListN.{length}
use borrow.Author.Tests.{le-leb, lt-leb, leb-true}
use Rattle.numbers.specs.Lists.{both, every}
use Rattle.numbers.proofs.Sums.{length_table, getD_table}
use Rattle.numbers.proofs.Lists.{both_fst, both_snd}
use Rattle.numbers.proofs.Places.{every_at}
use Rattle.day_file.specs.declared.Header.{Header}
use Rattle.day_file.specs.declared.Section.{Section}
use Rattle.day_file.specs.Form.{MOST_BYTES, HEADER, USER, PAIR, has_mark, header_of, pair_count, pairs_start, pairs_end, section_at, sections, end_of, is_whole, sorted, none_overlap, after_pairs, inside, sections_right, well_formed}

module _ (f : List ℕ) where
  pub too_long : MOST_BYTES < length f → false ≡ well_formed f
  unfolding well_formed
  too_long h = rw (lt-leb (length f) MOST_BYTES h)

  module _ (h : length f ≤ MOST_BYTES) where
    pub too_short : length f < HEADER → false ≡ well_formed f
    unfolding well_formed
    too_short k = rw (le-leb (length f) MOST_BYTES h, lt-leb HEADER (length f) k)

    module _ (k : HEADER ≤ length f) where
      pub unmarked : has_mark f ≡ false → false ≡ well_formed f
      unfolding well_formed
      unmarked e = rw (le-leb (length f) MOST_BYTES h, le-leb HEADER (length f) k, e)

      module _ (e : has_mark f ≡ true) where
        module _ {r : Header} (q : r ≡ header_of f) where
          pairs : r.pairs ≡ pairs_start f
          pairs = ap (λ (x : Header). x.pairs) q

          count : r.sections ≡ pair_count f
          count = ap (λ (x : Header). x.sections) q

          pub pairs_cut : length f < r.pairs + PAIR * r.sections → false ≡ well_formed f
          unfolding well_formed
          pairs_cut l =
              let m : length f < pairs_end f = omega (arith, pairs, count) in
              rw (le-leb (length f) MOST_BYTES h, le-leb HEADER (length f) k, e, lt-leb (pairs_end f) (length f) m)

          pub by_sections : r.pairs + PAIR * r.sections ≤ length f → sections_right f (sections f) ≡ well_formed f
          unfolding well_formed
          by_sections l =
              let m : pairs_end f ≤ length f = omega (arith, pairs, count) in
              rw (le-leb (length f) MOST_BYTES h, le-leb HEADER (length f) k, e, le-leb (pairs_end f) (length f) m)

-- ---- what holds of a well-formed file

pub record Inside (f : List ℕ) (i : ℕ) : Type 0 where
  pub pairs : pairs_end f ≤ length f
  pub user : USER ≤ (section_at f i).size
  pub section : end_of (section_at f i) ≤ length f

module _ (f : List ℕ) (w : well_formed f ≡ true) where
  rest : both (leb (pairs_end f) (length f)) (sections_right f (sections f)) ≡ true
  unfolding well_formed
  rest = both_snd (has_mark f) _ (both_snd (leb HEADER (length f)) _ (both_snd (leb (length f) MOST_BYTES) _ w))

  right : sections_right f (sections f) ≡ true
  right = both_snd (leb (pairs_end f) (length f)) _ rest

  each : (p : Section → Bool) → every p (sections f) ≡ true → (i : ℕ) → i < pair_count f → p (section_at f i) ≡ true
  each p e i l =
      ap p (sym (getD_table (section_at f) (pair_count f) i (section_at f i) l))
      ∙ every_at p (section_at f i) (sections f) e i (omega (arith, length_table (section_at f) (pair_count f)))

  pub section_inside : (i : ℕ) → i < pair_count f → Inside f i
  unfolding sections_right
  section_inside i l =
      let e₁ = both_snd (every is_whole (sections f)) _ right in
      let e₂ = both_snd (none_overlap (sections f)) _ (both_snd (sorted (sections f)) _ e₁) in
      record {
        pairs = leb-true (pairs_end f) (length f) (both_fst (leb (pairs_end f) (length f)) _ rest);
        user =
            leb-true USER (section_at f i).size
            (both_fst (leb USER (section_at f i).size) _ (each is_whole (both_fst (every is_whole (sections f)) _ right) i l));
        section = leb-true (end_of (section_at f i)) (length f) (each (inside f) (both_snd (every (after_pairs f) (sections f)) _ e₂) i l);
      }
