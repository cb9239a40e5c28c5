-- Lists that are padded: an element more, an element set, slots of five. Assumes nothing.
use mathlib.Core.Path.{◌≡◌, refl, sym, ap, ◌∙◌}
use mathlib.Core.List.{List, [], ◌∷◌, ◌++◌, map, append_assoc}
use Prim.Native.Nat.{ℕ, zero, suc, ◌+◌, ◌-◌, ◌*◌, ◌≤◌, ◌<◌}
use native.Mathlib.Omega.{arith}
use lib.ListN.{length, get_or, drop, set, replicate, length-append, length-set, length-replicate, replicate-append-replicate}
use lib.Seq.{set_at, set-append_left, get_or-take, get_or-drop}
use Rattle.numbers.specs.Lists.{flat}
use Rattle.numbers.proofs.Lists.{All, set_append_right}
use Rattle.point_day.specs.Limits.{CELLS}
use Rattle.point_day.specs.Day.{User}
use Rattle.point_day.specs.Struct.{padded}
use Rattle.point_day.proofs.Arrays.{nobody, kinds_of_flat}

pub padded_snoc : {A : Type 0} (x y : A) (n k : ℕ) (xs : List A) → length xs ≡ k → k < n → padded n x (xs ++ (y ∷ [])) ≡ set (padded n x xs) k y
unfolding padded
padded_snoc x y n k xs e l =
    let d : n - length xs ≡ suc (n - (length xs + 1)) = omega arith in
    rw (length-append xs (y ∷ []), d, set_at xs x (replicate (n - (length xs + 1)) x) y k e) (append_assoc xs (y ∷ []) (replicate (n - (length xs + 1)) x))

pub padded_same : {A : Type 0} (x : A) (n k : ℕ) (xs : List A) → length xs + k ≤ n → padded n x (xs ++ replicate k x) ≡ padded n x xs
unfolding padded
padded_same {A} x n k xs l =
    let d : n - length xs ≡ k + (n - (length xs + k)) = omega arith in
    rw (length-append xs (replicate k x), length-replicate {A = A} k x, d)
    (append_assoc xs (replicate k x) (replicate (n - (length xs + k)) x) ∙ ap (λ t. xs ++ t) (replicate-append-replicate k (n - (length xs + k)) x))

pub padded_set : {A : Type 0} (x : A) (n : ℕ) (xs : List A) (i : ℕ) (v : A) → i < length xs → padded n x (set xs i v) ≡ set (padded n x xs) i v
unfolding padded
padded_set x n xs i v l = rw (length-set xs i v) (sym (set-append_left xs (replicate (n - length xs) x) i v l))

-- ---- one cell of many

pub map_set : {A B : Type 0} (f : A → B) (xs : List A) (i : ℕ) (a : A) → map f (set xs i a) ≡ set (map f xs) i (f a)
map_set f [] i a = refl
map_set f (x ∷ xs) zero a = refl
map_set f (x ∷ xs) (suc i) a = ap (λ t. f x ∷ t) (map_set f xs i a)

pub flat_set : {A : Type 0} (g : User → List A) (us : List User) (s k : ℕ) (v : A) (w : User) → All (λ u. length (g u) ≡ 5) us → s < length us → k < 5
    → g w ≡ set (g (get_or us s nobody)) k v → flat (map g (set us s w)) ≡ set (flat (map g us)) (5 * s + k) v
unfolding flat
flat_set g [] s k v w h l m e = absurd (omega arith)
flat_set g (u ∷ us) zero k v w h l m e =
    let q : 5 * 0 + k ≡ k = omega arith in
    rw (e, q) (sym (set-append_left (g u) (flat (map g us)) k v (omega (arith, h.0))))
flat_set g (u ∷ us) (suc s) k v w h l m e =
    let q : 5 * suc s + k ≡ length (g u) + (5 * s + k) = omega (arith, h.0) in
    rw q (ap (λ t. g u ++ t) (flat_set g us s k v w h.1 (omega arith) m e) ∙ sym (set_append_right (g u) (flat (map g us)) (5 * s + k) v))

pub at_flat : {A : Type 0} (x y : A) (g : User → List A) (us : List User) (s k : ℕ) → All (λ u. length (g u) ≡ 5) us → s < length us → k < 5
    → get_or (padded CELLS x (flat (map g us))) (5 * s + k) y ≡ get_or (g (get_or us s nobody)) k y
unfolding padded
at_flat x y g us s k h l m =
    sym (get_or-drop (5 * s) (flat (map g us) ++ replicate (CELLS - length (flat (map g us))) x) k y)
    ∙ sym (get_or-take 5 (drop (5 * s) (flat (map g us) ++ replicate (CELLS - length (flat (map g us))) x)) k y m)
    ∙ ap (λ t. get_or t k y) (kinds_of_flat g us (replicate (CELLS - length (flat (map g us))) x) s h l)
