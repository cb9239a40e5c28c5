-- Calls one after the other: what they come to. Assumes nothing.
use mathlib.Core.Path.{◌≡◌, refl, sym, ap, ◌∙◌, subst⁻¹}
use mathlib.Core.Bool.{Bool, true, false}
use mathlib.Core.List.{List, [], ◌∷◌, ◌++◌, append_assoc, append-nil}
use Prim.Native.Nat.{ℕ, zero, suc, ◌+◌, ◌-◌, ◌≤◌}
use native.Mathlib.Omega.{arith}
use native.Mathlib.Numerals.{add-one}
use lib.ListN.{get_or}
use Rattle.std.specs.Prelude.{Option, Result, Err}
use Rattle.numbers.specs.declared.Refusal.{Refusal}
use Rattle.numbers.specs.Refusals.{number_of}
use Rattle.numbers.specs.Sums.{table}
use Rattle.numbers.specs.Lists.{flat}
use Rattle.numbers.proofs.Refusals.{refused_not_0}
use Rattle.numbers.proofs.Lists.{flat_append}
use Rattle.point_day.specs.Day.{measurement_right}
use Rattle.point_day.specs.Calls.{line_right}
use Rattle.point_day.specs.declared.Measurement.{Measurement}
use Rattle.point_day.specs.declared.PointDay.{PointDay}
use Rattle.point_day.proofs.Back.{flat_snoc}
use Rattle.line.specs.Cell.{past_limit}
use Rattle.line.specs.declared.cells.LineEntry.{LineEntry}
use Rattle.day_book.specs.Run.{Call, line}
use Rattle.day_file.specs.Report.{refused, in_order}
use Rattle.file_lines.specs.declared.lines.Entering.{Entering}
use Rattle.file_lines.specs.Entering.{HoldsAt, day_of, ComesTo}
use Rattle.file_lines.specs.Pieces.{line_refusal, offtake_with, lined}
use Rattle.file_lines.proofs.Steps.{line_out, line_past, line_added, line_entered}

-- the calls lead from one point-day to another; the calls stop with a refusal
abbrev pub Leads : List Call → (Option Measurement → PointDay) → (Option Measurement → PointDay) → Type 0
Leads cs p q = (g : ℕ) (m : Option Measurement) (rest : List Call) → measurement_right m ≡ true → in_order g (cs ++ rest) (p m) ≡ in_order g rest (q m)

abbrev pub Stops : ℕ → List Call → (Option Measurement → PointDay) → Type 0
Stops k cs p = (g : ℕ) (m : Option Measurement) (rest : List Call) → measurement_right m ≡ true → in_order g (cs ++ rest) (p m) ≡ refused k

module _ (p q : Option Measurement → PointDay) where
  pub leads_then : (s : Option Measurement → PointDay) (ds bs : List Call) → Leads ds p q → Leads bs q s → Leads (ds ++ bs) p s
  leads_then s ds bs h k g m rest r = rw (append_assoc ds bs rest) (h g m (bs ++ rest) r ∙ k g m rest r)

  pub leads_stop : {n : ℕ} (ds bs : List Call) → Leads ds p q → Stops n bs q → Stops n (ds ++ bs) p
  leads_stop ds bs h k g m rest r = rw (append_assoc ds bs rest) (h g m (bs ++ rest) r ∙ k g m rest r)

pub stops_there : {n : ℕ} (p : Option Measurement → PointDay) (ds bs : List Call) → Stops n ds p → Stops n (ds ++ bs) p
stops_there p ds bs h g m rest r = rw (append_assoc ds bs rest) (h g m (bs ++ rest) r)

-- an answer that is a refusal
pub stopped : {A : Type 0} {r : Result A Refusal} {e : Refusal} → r ≡ Err e → (cs : List Call) (p q : Option Measurement → PointDay) → Stops (number_of e) cs p → ComesTo r cs p q
stopped e cs p q h = subst⁻¹ (λ r. ComesTo r cs p q) e h

-- ---- calls in a table

table_split : {A : Type 0} (f : ℕ → A) (n k : ℕ) → table f (n + k) ≡ table f n ++ table (λ i. f (n + i)) k
unfolding table
table_split f n zero = let e : n + 0 ≡ n = omega arith in rw e (sym (append-nil (table f n)))
table_split f n (suc k) =
    let e : n + suc k ≡ suc (n + k) = omega arith in
    rw (e, table_split f n k) (append_assoc (table f n) (table (λ i. f (n + i)) k) (f (n + k) ∷ []))

pub table_rest : {A : Type 0} (f : ℕ → A) (n t : ℕ) → n ≤ t → table f t ≡ table f n ++ table (λ i. f (n + i)) (t - n)
table_rest f n t l = let e : n + (t - n) ≡ t = omega arith in ap (table f) (sym e) ∙ table_split f n (t - n)

pub table_next : {A : Type 0} (f : ℕ → A) (n : ℕ) → table f n ++ (f n ∷ []) ≡ table f (n + 1)
unfolding table
table_next f n = rw (add-one n)

pub flat_next : {A : Type 0} (f : ℕ → List A) (n : ℕ) → flat (table f n) ++ f n ≡ flat (table f (n + 1))
unfolding table
flat_next f n = sym (flat_snoc (table f n) (f n)) ∙ ap flat (table_next f n)

pub flat_rest : {A : Type 0} (f : ℕ → List A) (n t : ℕ) → n ≤ t → flat (table f t) ≡ flat (table f n) ++ flat (table (λ i. f (n + i)) (t - n))
flat_rest f n t l = ap flat (table_rest f n t l) ∙ flat_append (table f n) (table (λ i. f (n + i)) (t - n))

-- ---- a line

module _ (i : ℕ) (e : Entering) {x : ℕ} (s : HoldsAt (i + 1) e x) (l : LineEntry) (here : get_or e.users i 0 ≡ l.user) where
  abbrev call : Call
  call = line l.user l.kind l.consumption l.coefficient

  pub line_stops : (n : Refusal) → number_of n ≡ line_refusal l x → Stops (number_of n) (call ∷ []) (day_of e (i + 1))
  line_stops n h g m rest r = go (line_right l.user l.kind l.consumption l.coefficient) refl (past_limit x l.consumption l.coefficient) refl
    where
      go : (b : Bool) → line_right l.user l.kind l.consumption l.coefficient ≡ b → (d : Bool) → past_limit x l.consumption l.coefficient ≡ d
          → in_order g (call ∷ rest) (day_of e (i + 1) m) ≡ refused (number_of n)
      go false f d k = let z : number_of n ≡ 2 = h ∙ rw f in line_out i s l.user l.kind l.consumption l.coefficient here f g m rest r ∙ ap refused (sym z)
      go true f true k = let z : number_of n ≡ 6 = h ∙ rw (f, k) in line_past i s l.user l.kind l.consumption l.coefficient here f k g m rest r ∙ ap refused (sym z)
      go true f false k = absurd (refused_not_0 n (h ∙ rw (f, k)))

  pub line_goes : 0 ≡ line_refusal l x → HoldsAt (i + 1) (lined i l e) (offtake_with l x) × Leads (call ∷ []) (day_of e (i + 1)) (day_of (lined i l e) (i + 1))
  line_goes h = go (line_right l.user l.kind l.consumption l.coefficient) refl (past_limit x l.consumption l.coefficient) refl
    where
      go : (b : Bool) → line_right l.user l.kind l.consumption l.coefficient ≡ b → (d : Bool) → past_limit x l.consumption l.coefficient ≡ d
          → HoldsAt (i + 1) (lined i l e) (offtake_with l x) × Leads (call ∷ []) (day_of e (i + 1)) (day_of (lined i l e) (i + 1))
      go false f d k = absurd (let z : 0 ≡ 2 = h ∙ rw f in omega arith)
      go true f true k = absurd (let z : 0 ≡ 6 = h ∙ rw (f, k) in omega arith)
      go true f false k = (line_entered i s l.user l.kind l.consumption l.coefficient here f k, line_added i s l.user l.kind l.consumption l.coefficient here f k)
