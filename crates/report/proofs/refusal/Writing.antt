-- Text put into a buffer piece by piece. Assumes nothing.
use mathlib.Core.Path.{◌≡◌, sym, ap, ◌∙◌, subst}
use mathlib.Core.List.{List, [], ◌∷◌, ◌++◌, append_assoc, append-nil}
use Prim.Native.Nat.{ℕ, zero, suc, ◌+◌, ◌≤◌, ◌<◌}
use native.Mathlib.Omega.{arith}
use native.Mathlib.Numerals.{add-one}
use lib.IntN.{ℤ, pos}
use lib.ListN.{length, get_or, take, drop, length-append, take-append-drop}
use Rattle.wire.specs.Text.{decimal, written, Added}
use Rattle.wire.proofs.Text.{written_length, written_more}
use Rattle.day_file.specs.Text.{SPACE, spaced}

-- d' is d with the text s from place i on, which ends at `at`
pub record Put (d : List ℕ) (i : ℕ) (s d' : List ℕ) (at : ℕ) : Type 0 where
  pub is : d' ≡ written d i s
  pub end : at ≡ i + length s
  pub room : at ≤ length d

module _ {d : List ℕ} {i : ℕ} {s d' : List ℕ} {at : ℕ} (p : Put d i s d' at) where
  pub put_length : length d' ≡ length d
  put_length = ap length p.is ∙ written_length d i s (omega (arith, p.end, p.room))

  pub put_more : (t : List ℕ) {d'' : List ℕ} {at' : ℕ} → Added d' at t d'' at' → at' ≤ length d → Put d i (s ++ t) d'' at'
  put_more t {d''} {at'} e l = record {
    is = e.0 ∙ rw (p.is, p.end) (written_more d i s (omega (arith, p.end, p.room)) t (omega (arith, p.end, e.1)));
    end = rw (length-append s t) (omega (arith, p.end, e.1));
    room = l;
  }

pub put_first : (d : List ℕ) (i : ℕ) (s : List ℕ) {d' : List ℕ} {at : ℕ} → Added d i s d' at → at ≤ length d → Put d i s d' at
put_first d i s e l = record { is = e.0; end = e.1; room = l }

pub put_none : (d : List ℕ) (i : ℕ) → i ≤ length d → Put d i [] d i
put_none d i l = record { is = sym (rw (append-nil (take i d)) (none i)); end = omega arith; room = l }
  where
    none : (i : ℕ) → take i d ++ drop (i + 0) d ≡ d
    none i = let e : i + 0 ≡ i = omega arith in rw e (take-append-drop i d)

-- ---- a line

-- one number more
spaced_suc : (zs : List ℤ) (k : ℕ) → k < length zs → spaced (take (suc k) zs) ≡ spaced (take k zs) ++ (SPACE ∷ decimal (get_or zs k (pos 0)))
unfolding spaced
spaced_suc [] k l = absurd (omega arith)
spaced_suc (z ∷ zs) zero l = append-nil (SPACE ∷ decimal z)
spaced_suc (z ∷ zs) (suc k) l =
    ap (λ t. (SPACE ∷ decimal z) ++ t) (spaced_suc zs k (omega arith)) ∙ sym (append_assoc (SPACE ∷ decimal z) (spaced (take k zs)) (SPACE ∷ decimal (get_or zs k (pos 0))))

pub spaced_next : (word : List ℕ) (zs : List ℤ) (k : ℕ) → k < length zs
    → ((word ++ spaced (take k zs)) ++ (SPACE ∷ [])) ++ decimal (get_or zs k (pos 0)) ≡ word ++ spaced (take (k + 1) zs)
spaced_next word zs k l =
    let z = get_or zs k (pos 0) in
    append_assoc (word ++ spaced (take k zs)) (SPACE ∷ []) (decimal z)
    ∙ append_assoc word (spaced (take k zs)) (SPACE ∷ decimal z)
    ∙ ap (λ t. word ++ t) (sym (rw add-one (spaced_suc zs k l)))

-- the same text by another name
pub put_as : {d : List ℕ} {i : ℕ} {s t d' : List ℕ} {at : ℕ} → s ≡ t → Put d i s d' at → Put d i t d' at
put_as {d = d} {i = i} {d' = d'} {at = at} e p = subst (λ x. Put d i x d' at) e p
