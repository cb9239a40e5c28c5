-- What the contracts of the reading functions come to on given bytes. Assumes nothing.
use mathlib.Core.Path.{◌≡◌, refl, ap, ◌∙◌}
use mathlib.Core.Bool.{true}
use mathlib.Core.List.{List, [], ◌∷◌, ◌++◌}
use Prim.Native.Nat.{ℕ, suc, ◌+◌, ◌*◌, ◌≤◌, ◌<◌}
use native.Mathlib.Omega.{arith}
use lib.ListN.{drop, length}
use lib.IntN.{ℤ, pos}
use contract.Lifetimes.{Lfts}
use denote.RattleType.{RattleType}
use denote.Param.Laws.{Laws, IsCopy}
use mir.Syntax.{Dict}
use Rattle.std.specs.declared.clone.Clone.{Ghosts as CloneGhosts}
use Rattle.console.specs.declared.input.Number.{Ghosts as NumberGhosts}
use Rattle.std.specs.Borrow.{MutBor}
use Rattle.std.specs.Prelude.{Result, Ok, Err, IsOk, IsErr, IfOk, OnOk, OnErr, ◌↔◌}
use Rattle.console.specs.declared.input.Malformed.{Malformed}
use Rattle.numbers.specs.Sums.{table}
use Rattle.numbers.proofs.Lists.{never}
use Rattle.wire.specs.Bytes.{little_endian, signed_64}
use Rattle.console.specs.Input.{spelled_in}
use Rattle.console.proofs.input.U16Number.read.Reads as read_u16
use Rattle.console.proofs.input.Input.fill.Reads as fill
use Rattle.console.proofs.input.at_most.Reads as at_most

absent : {n : ℕ} → suc (suc n) ≤ suc n → ⊥
absent h = absurd (omega arith)

-- the clauses of `Number::read`: a number of n bytes that `spelled` gives, read from `before`, which leaves `after`
pub record Reads {A : Type 0} (n : ℕ) (spelled : List ℕ → A) (before : List ℕ) (r : Result A Malformed) (after : List ℕ) : Type 0 where
  pub ok : IsOk r ↔ (n ≤ length before)
  pub value : IfOk r (λ x. x ≡ spelled before)
  pub rest : OnOk r (after ≡ drop n before)
  pub same : OnErr r (after ≡ before)

-- so the contract of `<u16 as Number>::read`, as the toolchain reads it for a caller, gives them
pub u16_reads : (κs : Lfts 2) (input input' : MutBor (List ℕ)) (r : Result ℕ Malformed) → read_u16.Learnt κs (input, tt) r (input', tt)
    → Reads 2 (λ s. little_endian 2 s 0) input.now r input'.now
u16_reads κs input input' r h = record { ok = h.0; value = h.1.0; rest = h.1.1.0; same = h.1.1.1.0 }

-- two bytes after the first
pub two_bytes : (r : Result ℕ Malformed) (after : List ℕ) → Reads 2 (λ s. little_endian 2 s 0) (1 ∷ 2 ∷ []) r after → (r ≡ Ok 513) × (after ≡ [])
unfolding little_endian
two_bytes (Ok x) after h = (ap Ok h.value, h.rest)
two_bytes (Err e) after h = never (h.ok.1 (omega arith))

-- two bytes where one is left: there is no number, and nothing is passed over
pub cut_short : (r : Result ℕ Malformed) (after : List ℕ) → Reads 2 (λ s. little_endian 2 s 0) (2 ∷ []) r after → IsErr r × (after ≡ 2 ∷ [])
cut_short (Ok x) after h = absurd (absent (h.ok.0 (refl {a = true})))
cut_short (Err e) after h = (refl {a = true}, h.same)

-- what is done after a number, if there is one, as `?` does it
abbrev pub and_then : {A B : Type 0} → Result A Malformed → (A → Result B Malformed) → Result B Malformed
and_then (Ok x) f = f x
and_then (Err e) f = Err e

-- what is malformed stays so: nothing that `?` would hand on to is run
pub failed_ends : {A B : Type 0} (e : Malformed) (f : A → Result B Malformed) → and_then (Err e) f ≡ Err e
failed_ends e f = refl

-- where a number is cut short so is each of as many bytes or more that is read in its place, and nothing is passed over
pub stays_failed : {A B : Type 0} (n m : ℕ) (spelled : List ℕ → A) (spelled' : List ℕ → B) (before after last : List ℕ) (r : Result A Malformed) (r' : Result B Malformed)
    → n ≤ m → IsErr r → Reads n spelled before r after → Reads m spelled' after r' last → IsErr r' × (after ≡ before) × (last ≡ before)
stays_failed n m spelled spelled' before after last (Ok x) r' l e h h' = never e
stays_failed n m spelled spelled' before after last (Err x) (Ok y) l e h h' =
    let whole : n ≤ length before = omega (arith, l, h'.ok.0 (refl {a = true}), ap length h.same) in never (h.ok.1 whole)
stays_failed n m spelled spelled' before after last (Err x) (Err y) l e h h' = (refl {a = true}, h.same, h'.same ∙ h.same)

-- and so by the contract of `<u16 as Number>::read`, as the toolchain reads it for a caller
pub u16_stays_failed : (κs : Lfts 2) (input input' input'' : MutBor (List ℕ)) (r r' : Result ℕ Malformed) → IsErr r
    → read_u16.Learnt κs (input, tt) r (input', tt) → read_u16.Learnt κs (input', tt) r' (input'', tt)
    → IsErr r' × (input'.now ≡ input.now) × (input''.now ≡ input.now)
u16_stays_failed κs input input' input'' r r' e h h' =
    stays_failed 2 2 _ _ input.now input'.now input''.now r r' (omega arith) e (u16_reads κs input input' r h) (u16_reads κs input' input'' r' h')

-- 2 where at most 1 has a meaning
pub no_meaning : (r : Result ℕ Malformed) → (IsOk r ↔ (2 ≤ 1)) → IsErr r
no_meaning (Ok x) h = absurd (absent (h.0 (refl {a = true})))
no_meaning (Err e) h = refl {a = true}

-- and so by the contract of `at_most`, as the toolchain reads it for a caller
pub at_most_refuses : (κs : Lfts 0) (r : Result ℕ Malformed) → at_most.Learnt κs (2, (1, tt)) r (2, (1, tt)) → IsErr r
at_most_refuses κs r h = no_meaning r h.0

-- the clauses of `Input::fill`: a list, of numbers of n bytes that `spelled` gives, filled from `before`, which leaves `after`
pub record Fills {A U : Type 0} (n : ℕ) (spelled : List ℕ → A) (nought : A) (before : List ℕ) (r : Result U Malformed) (after : List ℕ) (old new : List A) : Type 0 where
  pub ok : IsOk r ↔ (n * length old ≤ length before)
  pub value : OnOk r (new ≡ spelled_in n spelled before (length old))
  pub rest : OnOk r (after ≡ drop (n * length old) before)
  pub cut_short : OnErr r ((k : ℕ) × (n * k ≤ length before) × (length before < n * (k + 1)) × (after ≡ drop (n * k) before) × (new ≡ spelled_in n spelled before k ++ drop k (table (λ i. nought) (length old))))

-- so the contract of `Input::fill` gives them, for every type of numbers
pub fill_fills : (T : RattleType) (L : Laws T) (C : IsCopy T) (N : NumberGhosts T.Denot) (n : Dict) (K : CloneGhosts T.Denot) (k : Dict) (κs : Lfts 4) (input input' : MutBor (List ℕ)) (list list' : MutBor (List T.Denot)) (r : Result (Unit {0}) Malformed)
    → fill.Learnt T L C N n K k κs (input, (list, tt)) r (input', (list', tt))
    → Fills N.size N.spelled N.ZERO input.now r input'.now list.now list'.now
fill_fills T L C N n K k κs input input' list list' r h = record { ok = h.0; value = h.1.0; rest = h.1.1.0; cut_short = h.1.1.1.0 }

-- two numbers of eight bytes where nine are: the first is read, the second is 0, and the ninth byte is left
pub then_cut_short : {U : Type 0} (r : Result U Malformed) (after : List ℕ) (old new : List ℤ) → length old ≡ 2
    → Fills 8 (λ s. signed_64 (little_endian 8 s 0)) (pos 0) (2 ∷ 0 ∷ 0 ∷ 0 ∷ 0 ∷ 0 ∷ 0 ∷ 0 ∷ 7 ∷ []) r after old new
    → IsErr r × (after ≡ 7 ∷ []) × (new ≡ pos 2 ∷ pos 0 ∷ [])
unfolding spelled_in table little_endian
then_cut_short (Ok x) after old new l h =
    let e : 8 * length old ≤ 9 = h.ok.0 (refl {a = true}) in absurd (omega (arith, e, l))
then_cut_short (Err e) after old new l h =
    let c = h.cut_short in
    let k : c.0 ≡ 1 = omega (arith, c.1, c.2) in
    (refl {a = true}, c.3 ∙ rw k refl, c.4 ∙ rw (k, l) refl)
