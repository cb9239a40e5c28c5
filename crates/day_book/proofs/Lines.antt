-- Lines of the ledger against cells of the day: one line more is added to one cell. Assumes nothing.
use mathlib.Core.Path.{◌≡◌, refl, sym, ap, ap₂, ◌∙◌}
use mathlib.Core.Bool.{Bool, true, false, not}
use mathlib.Core.List.{List, [], ◌∷◌, map}
use Prim.Native.Nat.{ℕ, zero, suc, ◌+◌, ◌-◌, ◌≤◌}
use native.Mathlib.Omega.{arith}
use lib.Dec.{eqb}
use lib.IntN.{pos}
use lib.ListN.{get_or, set}
use borrow.Author.Tests.{eqb-true, eqb-false, eq-eqb, ne_eqb, not-true}
use Rattle.numbers.specs.Sums.{pick, total}
use Rattle.numbers.specs.Lists.{both, either, has, distinct}
use Rattle.numbers.proofs.Lists.{All, true≢false, never, both_fst, both_snd, map_map, map_eq}
use Rattle.point_day.specs.Limits.{KINDS}
use Rattle.point_day.specs.Day.{empty_user}
use Rattle.point_day.specs.Calls.{cell_step, user_line, for_user}
use Rattle.day_book.specs.Calls.{Line, a_line}
use Rattle.day_book.specs.Book.{Book, kinds, losses_of, added_up, offtake_of, point_sum, with_line}
use Rattle.day_book.specs.Described.{user_of}
use Rattle.day_book.proofs.Parties.{map_all, others}

-- ---- five kinds

pub five_eq : {A : Type 0} {a b c d e a' b' c' d' e' : A} → a ≡ a' → b ≡ b' → c ≡ c' → d ≡ d' → e ≡ e'
    → ◌≡◌ {A = List A} (a ∷ b ∷ c ∷ d ∷ e ∷ []) (a' ∷ b' ∷ c' ∷ d' ∷ e' ∷ [])
five_eq p q r s t = λ i. p i ∷ q i ∷ r i ∷ s i ∷ t i ∷ []

abbrev used : Line → ℕ
used l = l.consumption

-- what the lines of a user add up to, by kinds
abbrev cells : (Line → ℕ) → List Line → ℕ → List ℕ
cells f ls n = map (λ kind. added_up f n kind ls) kinds

-- x more at a kind
abbrev add_at : ℕ → ℕ → List ℕ → List ℕ
add_at kind x xs = set xs (kind - 1) (get_or xs (kind - 1) 0 + x)

add_line : (x kind : ℕ) (s : ℕ → ℕ) → 1 ≤ kind → kind ≤ KINDS → add_at kind x (map s kinds) ≡ map (λ k. pick (eqb kind k) x 0 + s k) kinds
add_line x zero s a b = absurd (omega arith)
add_line x (suc zero) s a b = five_eq (omega arith) (omega arith) (omega arith) (omega arith) (omega arith)
add_line x (suc (suc zero)) s a b = five_eq (omega arith) (omega arith) (omega arith) (omega arith) (omega arith)
add_line x (suc (suc (suc zero))) s a b = five_eq (omega arith) (omega arith) (omega arith) (omega arith) (omega arith)
add_line x (suc (suc (suc (suc zero)))) s a b = five_eq (omega arith) (omega arith) (omega arith) (omega arith) (omega arith)
add_line x (suc (suc (suc (suc (suc zero))))) s a b = five_eq (omega arith) (omega arith) (omega arith) (omega arith) (omega arith)
add_line x (suc (suc (suc (suc (suc (suc n)))))) s a b = absurd (omega arith)

module _ (f : Line → ℕ) (l : Line) (ls : List Line) (n : ℕ) where
  -- of this user
  own_line : l.user ≡ n → 1 ≤ l.kind → l.kind ≤ KINDS → add_at l.kind (f l) (cells f ls n) ≡ cells f (l ∷ ls) n
  unfolding total added_up
  own_line e a b = rw (eq-eqb l.user n e) (add_line (f l) l.kind (λ k. added_up f n k ls) a b)

  -- of another user
  other_line : (l.user ≡ n → ⊥) → cells f ls n ≡ cells f (l ∷ ls) n
  unfolding total added_up
  other_line e = rw (ne_eqb l.user n e) (five_eq (omega arith) (omega arith) (omega arith) (omega arith) (omega arith))

-- ---- a user after a line

module _ (b : Book) (n kind c k : ℕ) (low : 1 ≤ kind) (high : kind ≤ KINDS) where
  user_after : (m : ℕ) (p : Bool) → eqb m n ≡ p
      → pick p (user_line kind c k (user_of b m)) (user_of b m) ≡ user_of (with_line (a_line n kind c k) b) m
  unfolding with_line cell_step
  user_after m true e =
      let same = sym (eqb-true m n e) in
      ap₂ (λ cs ls. record { number = m; consumption = cs; losses = ls; balance = map (b.balance m) kinds; revision = b.revision m })
      (own_line used (a_line n kind c k) b.lines m same low high) (own_line losses_of (a_line n kind c k) b.lines m same low high)
  user_after m false e =
      let apart : n ≡ m → ⊥ = λ z. eqb-false m n e (sym z) in
      ap₂ (λ cs ls. record { number = m; consumption = cs; losses = ls; balance = map (b.balance m) kinds; revision = b.revision m })
      (other_line used (a_line n kind c k) b.lines m apart) (other_line losses_of (a_line n kind c k) b.lines m apart)

  pub users_after : (ns : List ℕ)
      → map (for_user n (user_line kind c k)) (map (user_of b) ns) ≡ map (user_of (with_line (a_line n kind c k) b)) ns
  users_after ns = map_map (for_user n (user_line kind c k)) (user_of b) ns ∙ map_eq _ _ (λ m. user_after m (eqb m n) refl) ns

-- ---- the point-day's sum after a line

-- x more at one kind, and y more
spread : (p : Bool) (kind x y : ℕ) (s t : ℕ → ℕ) → 1 ≤ kind → kind ≤ KINDS
    → total (map (λ k. (pick (both p (eqb kind k)) x 0 + s k) + (pick (both p (eqb kind k)) y 0 + t k)) kinds)
    ≡ pick p (x + y) 0 + total (map (λ k. s k + t k) kinds)
unfolding total
spread false kind x y s t a b = omega arith
spread true zero x y s t a b = absurd (omega arith)
spread true (suc zero) x y s t a b = omega arith
spread true (suc (suc zero)) x y s t a b = omega arith
spread true (suc (suc (suc zero))) x y s t a b = omega arith
spread true (suc (suc (suc (suc zero)))) x y s t a b = omega arith
spread true (suc (suc (suc (suc (suc zero))))) x y s t a b = omega arith
spread true (suc (suc (suc (suc (suc (suc n)))))) x y s t a b = absurd (omega arith)

-- x more at one user
abbrev sum_with : ℕ → ℕ → (ℕ → ℕ) → List ℕ → ℕ
sum_with n x f ns = total (map (λ m. pick (eqb n m) x 0 + f m) ns)

sum_picked : (n x : ℕ) (f : ℕ → ℕ) (ns : List ℕ) → distinct ns ≡ true → has n ns ≡ true → sum_with n x f ns ≡ x + total (map f ns)
unfolding total distinct has
sum_picked n x f [] d h = never h
sum_picked n x f (m ∷ ns) d h = go (eqb n m) refl h (sum_picked n x f ns (both_snd (not (has m ns)) _ d))
  where
    go : (p : Bool) → eqb n m ≡ p → either p (has n ns) ≡ true → (has n ns ≡ true → sum_with n x f ns ≡ x + total (map f ns))
        → (pick p x 0 + f m) + sum_with n x f ns ≡ x + (f m + total (map f ns))
    go true e h r =
        let new : has n ns ≡ false = ap (λ m. has m ns) (eqb-true n m e) ∙ not-true _ (both_fst (not (has m ns)) _ d) in
        let same : sum_with n x f ns ≡ total (map f ns) =
        ap total (map_all (λ m. eqb n m ≡ false) (λ m. pick (eqb n m) x 0 + f m) f (λ m e. rw e (omega arith)) ns (others n ns new)) in
        omega arith
    go false e h r = let s = r h in omega arith

pub line_sum : (b : Book) (n kind c k : ℕ) → 1 ≤ kind → kind ≤ KINDS → distinct b.users ≡ true → has n b.users ≡ true
    → let l = a_line n kind c k in point_sum (with_line l b) ≡ (c + losses_of l) + point_sum b
unfolding with_line added_up total
line_sum b n kind c k low high d h =
    let l = a_line n kind c k in
    ap total (map_eq (offtake_of kinds (with_line l b)) (λ m. pick (eqb n m) (c + losses_of l) 0 + offtake_of kinds b m)
    (λ m. spread (eqb n m) kind c (losses_of l) (λ k. added_up used m k b.lines) (λ k. added_up losses_of m k b.lines) low high)
    b.users)
    ∙ sum_picked n (c + losses_of l) (offtake_of kinds b) b.users d h

-- ---- a user without lines

no_lines : (f : Line → ℕ) (n k : ℕ) (ns : List ℕ) → has n ns ≡ false → (ls : List Line) → All (λ l. has l.user ns ≡ true) ls
    → added_up f n k ls ≡ 0
unfolding total added_up
no_lines f n k ns e [] h = refl
no_lines f n k ns e (l ∷ ls) h =
    rw (ne_eqb l.user n (λ z. true≢false (sym h.0 ∙ ap (λ m. has m ns) z ∙ e))) (omega (arith, no_lines f n k ns e ls h.1))

-- nor balance nor revision
pub newcomer_empty : (b : Book) (n : ℕ) (ns : List ℕ) → has n ns ≡ false → All (λ l. has l.user ns ≡ true) b.lines
    → ((kind : ℕ) → b.balance n kind ≡ pos 0) → b.revision n ≡ pos 0 → user_of b n ≡ empty_user n
newcomer_empty b n ns e h z r = λ i. record {
  number = n;
  consumption = five_eq (none used 1) (none used 2) (none used 3) (none used 4) (none used 5) i;
  losses = five_eq (none losses_of 1) (none losses_of 2) (none losses_of 3) (none losses_of 4) (none losses_of 5) i;
  balance = five_eq (z 1) (z 2) (z 3) (z 4) (z 5) i;
  revision = r i;
}
  where
    none : (f : Line → ℕ) (k : ℕ) → added_up f n k b.lines ≡ 0
    none f k = no_lines f n k ns e b.lines h
