-- The order of the remainders is strict, and total where the keys differ. Assumes nothing.
use mathlib.Core.Path.{◌≡◌, refl, sym, ap, ◌∙◌}
use mathlib.Core.Bool.{Bool, true, false}
use mathlib.Core.Logic.{⊎_elim, ◌⊎◌, inl, inr}
use Prim.Native.Nat.{ℕ, ◌≤◌, ◌<◌}
use native.Mathlib.Omega.{arith}
use lib.Dec.{ltb, eqb}
use borrow.Author.Tests.{ltb-true, lt-ltb, le-ltb, eqb-true, eq-eqb}
use Rattle.numbers.specs.Sums.{bit, pick}
use Rattle.proration.specs.Proration.{ahead}
use Rattle.numbers.proofs.Sums.{cases, lt_or_ge}

abbrev Ahead : ℕ → ℕ → ℕ → ℕ → Type 0
Ahead r k r' k' = (r' < r) ⊎ ((r ≡ r') × (k < k'))

read : (p q s : Bool) → pick p true (pick q s false) ≡ true → (p ≡ true) ⊎ ((q ≡ true) × (s ≡ true))
read true q s e = inl refl
read false true s e = inr (refl, e)
read false false s e = absurd (omega (arith, ap bit e))

pub is_ahead : (r k r' k' : ℕ) → ahead r k r' k' ≡ true → Ahead r k r' k'
is_ahead r k r' k' e =
    ⊎_elim (λ t. inl (ltb-true r' r t)) (λ t. inr (eqb-true r r' t.0, ltb-true k k' t.1))
    (read (ltb r' r) (eqb r r') (ltb k k') e)

pub go_ahead : (r k r' k' : ℕ) → Ahead r k r' k' → ahead r k r' k' ≡ true
go_ahead r k r' k' (inl l) = rw (lt-ltb r' r l)
go_ahead r k r' k' (inr e) = rw (le-ltb r' r (omega arith), eq-eqb r r' e.0, lt-ltb k k' e.1)

pub irr : (r k : ℕ) → ahead r k r k ≡ false
irr r k = ⊎_elim (λ e. ⊎_elim (λ t. absurd (omega arith)) (λ t. absurd (omega arith)) (is_ahead r k r k e)) (λ e. e) (cases (ahead r k r k))

both : (r k r' k' r'' k'' : ℕ) → Ahead r k r' k' → Ahead r' k' r'' k'' → Ahead r k r'' k''
both r k r' k' r'' k'' (inl a) (inl b) = inl (omega arith)
both r k r' k' r'' k'' (inl a) (inr b) = inl (omega arith)
both r k r' k' r'' k'' (inr a) (inl b) = inl (omega arith)
both r k r' k' r'' k'' (inr a) (inr b) = inr (omega arith, omega arith)

pub trans : (r k r' k' r'' k'' : ℕ) → ahead r k r' k' ≡ true → ahead r' k' r'' k'' ≡ true → ahead r k r'' k'' ≡ true
trans r k r' k' r'' k'' e f =
    go_ahead r k r'' k'' (both r k r' k' r'' k'' (is_ahead r k r' k' e) (is_ahead r' k' r'' k'' f))

pub three : (a b : ℕ) → (a < b) ⊎ ((a ≡ b) ⊎ (b < a))
three a b = ⊎_elim (λ l. inl l) (λ l. ⊎_elim (λ m. inr (inr m)) (λ m. inr (inl (omega arith))) (lt_or_ge b a)) (lt_or_ge a b)

pub tot : (r k r' k' : ℕ) → (k ≡ k' → ⊥) → (ahead r k r' k' ≡ true) ⊎ (ahead r' k' r k ≡ true)
tot r k r' k' d =
    ⊎_elim (λ l. inr (go_ahead r' k' r k (inl l)))
    (⊎_elim
    (λ e. ⊎_elim (λ l. inl (go_ahead r k r' k' (inr (e, l)))) (⊎_elim (λ l. absurd (d l)) (λ l. inr (go_ahead r' k' r k (inr (sym e, l))))) (three k k'))
    (λ l. inl (go_ahead r k r' k' (inl l))))
    (three r r')

-- what goes before x of key y goes before whatever does not
pub past : (r k x y r' k' : ℕ) → ahead r k x y ≡ true → ahead r' k' x y ≡ false → ahead r k r' k' ≡ true
past r k x y r' k' e f =
    go_ahead r k r' k'
    (⊎_elim (λ l. absurd (clash (inl l)))
    (⊎_elim
    (λ q. ⊎_elim (λ l. absurd (clash (inr (sym q, l)))) (λ l. on_rem q l (is_ahead r k x y e)) (lt_or_ge k' y))
    (λ l. ⊎_elim (λ a. inl (omega arith)) (λ a. inl (omega arith)) (is_ahead r k x y e)))
    (three x r'))
  where
    clash : Ahead r' k' x y → ⊥
    clash a = omega (arith, ap bit (sym (go_ahead r' k' x y a) ∙ f))

    on_rem : x ≡ r' → y ≤ k' → Ahead r k x y → Ahead r k r' k'
    on_rem q l (inl a) = inl (omega arith)
    on_rem q l (inr a) = inr (omega arith, omega arith)
