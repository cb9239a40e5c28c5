-- A day file's calls on a fresh point-day, and the report in a buffer. Assumes nothing.
use mathlib.Core.Path.{◌≡◌, refl, sym, ap, ap₂, ◌∙◌}
use mathlib.Core.Bool.{Bool, true, false}
use mathlib.Core.List.{List, [], ◌∷◌, ◌++◌, map}
use mathlib.Core.Logic.{⊎_elim}
use Prim.Native.Nat.{ℕ, ◌+◌, ◌≤◌, ◌<◌}
use native.Mathlib.Omega.{arith}
use lib.Dec.{leb}
use lib.IntN.{pos}
use lib.Seq.{take_at, take_all}
use lib.ListN.{take, drop, length-append, length, length-take, length-replicate}
use borrow.Author.Tests.{le-leb, lt-leb}
use Rattle.numbers.specs.Sums.{pick}
use Rattle.numbers.specs.Lists.{flat}
use Rattle.numbers.proofs.Sums.{lt_or_ge}
use Rattle.point_day.specs.Limits.{USERS, CELLS}
use Rattle.point_day.specs.Day.{fresh, emission_right}
use Rattle.point_day.specs.Struct.{Sized, padded, laid, taken}
use Rattle.point_day.specs.declared.Measurement.{Measurement}
use Rattle.calendar.specs.Answers.{refused as refused-with, given}
use Rattle.calendar.specs.Days.{LAST_DAY}
use Rattle.point_day.specs.Fields.{set_measurement}
use Rattle.measure.proofs.Measures.{measure_2, measure_done}
use Rattle.day_book.specs.Run.{Call, measure, allot}
use Rattle.day_file.proofs.WellFormed.{too_long}
use Rattle.day_file.specs.Form.{MOST_BYTES, gas_day, emission, downstream, sections, well_formed}
use Rattle.day_file.specs.File.{section_calls, file_calls}
use Rattle.io.specs.Counts.{IsPrefixLen}
use Rattle.wire.specs.Text.{written}
use Rattle.day_file.specs.Report.{Report, refused, allotted, in_order, report}
use Rattle.day_file.specs.Text.{text}
use Rattle.report.specs.Room.{REPORT_ROOM}
use Rattle.file_lines.specs.Entering.{entering, unjoined}
use Rattle.file_lines.proofs.Steps.{step}
use Rattle.day_report.specs.Entered.{entered_and_allotted}
use Rattle.day_report.specs.Answered.{text_for, report_call, buffer_after, size_of}
use Rattle.day_report.proofs.allotment.Allotting.{unjoined_taken}
use Rattle.std.specs.Prelude.{Option, None}
use Rattle.point_day.specs.Day.{metered}

-- ---- measure

fresh_taken : taken (laid fresh) ≡ true
unfolding unjoined entering laid padded flat fresh
fresh_taken = unjoined_taken None refl

fresh_sized : Sized (laid fresh)
unfolding laid padded flat fresh
fresh_sized = record {
  users = length-replicate {A = ℕ} USERS 0;
  consumption = length-replicate CELLS (pos 0);
  losses = length-replicate CELLS (pos 0);
  balance = length-replicate CELLS (pos 0);
  revision = length-replicate USERS (pos 0);
}

fresh_measured : (m : Option Measurement) → unjoined m ≡ set_measurement m (laid fresh)
unfolding unjoined entering laid padded flat fresh
fresh_measured m = refl

module _ (e w g : ℕ) (rest : List Call) where
  refuse : emission_right e w ≡ false → in_order g (measure e w ∷ rest) (laid fresh) ≡ refused 2
  unfolding laid fresh
  refuse r = step g (measure e w) rest (laid fresh) (measure_2 e w (laid fresh) fresh_sized fresh_taken refl r)

  measure_leads : emission_right e w ≡ true → in_order g (measure e w ∷ rest) (laid fresh) ≡ in_order g rest (unjoined (metered e w))
  unfolding laid fresh
  measure_leads r = step g (measure e w) rest (laid fresh) (measure_done e w (laid fresh) fresh_sized fresh_taken refl r (fresh_measured (metered e w)))

-- ---- the whole file

module _ (f : List ℕ) where
  pub malformed : well_formed f ≡ false → refused 13 ≡ report f
  unfolding report
  malformed e = rw e

  -- what the test of a file's form tells
  pub not_decoded : {n : ℕ} → n ≡ pick (well_formed f) 0 13 → (n ≡ 0 → ⊥) → refused n ≡ report f
  not_decoded {n} e h = go (well_formed f) refl
    where
      go : (b : Bool) → well_formed f ≡ b → refused n ≡ report f
      go true w = absurd (h (rw w at e))
      go false w = let z : n ≡ 13 = rw w at e in rw z (malformed w)

  module _ (e : well_formed f ≡ true) where
    pub late_day : LAST_DAY < gas_day f → refused 2 ≡ report f
    unfolding report
    late_day l = rw (e, lt-leb (gas_day f) LAST_DAY l)

    module _ {g b w : ℕ} (p : g ≡ gas_day f) (q : b ≡ emission f) (r : w ≡ downstream f) (l : g ≤ LAST_DAY) where
      by_calls : report f ≡ in_order g (measure b w ∷ (flat (map (section_calls f) (sections f)) ++ (allot ∷ []))) (laid fresh)
      unfolding report file_calls
      by_calls = rw (e, sym p, le-leb g LAST_DAY l, q, r)

      pub unmeasured : emission_right b w ≡ false → refused 2 ≡ report f
      unmeasured h = sym (by_calls ∙ refuse b w g (flat (map (section_calls f) (sections f)) ++ (allot ∷ [])) h)

      pub measured : emission_right b w ≡ true → entered_and_allotted f g (metered b w) ≡ report f
      measured h = sym (by_calls ∙ measure_leads b w g (flat (map (section_calls f) (sections f)) ++ (allot ∷ [])) h)

-- the first bytes of an input, one more than a day file may have, tell its report
pub enough : (f : List ℕ) → report (take (MOST_BYTES + 1) f) ≡ report f
enough f =
    ⊎_elim
    (λ l. sym (malformed (take (MOST_BYTES + 1) f) (sym (too_long (take (MOST_BYTES + 1) f) (omega (arith, length-take (MOST_BYTES + 1) f))))) ∙ malformed f (sym (too_long f (omega arith))))
    (λ l. ap report (take_all (MOST_BYTES + 1) f l))
    (lt_or_ge (MOST_BYTES + 1) (length f))

-- ---- with the room and without it

module _ (f out : List ℕ) where
  -- what is written, and how many bytes it has
  abbrev pub Written : ℕ → List ℕ → Type 0
  Written r o =
      (r ≡ pick (leb REPORT_ROOM (length out)) (length (text (report f))) 0)
      × ((o ≡ pick (leb REPORT_ROOM (length out)) (written out 0 (text (report f))) out) × IsPrefixLen r o)

  pub no_room : length out < REPORT_ROOM → Written 0 out
  no_room l = rw (lt-leb REPORT_ROOM (length out) l) (refl, (refl, (omega arith, refl)))

  in_text : REPORT_ROOM ≤ length out → {r : ℕ} {o : List ℕ} → r ≡ length (text (report f)) → o ≡ written out 0 (text (report f)) → Written r o
  in_text l {r} {o} p q =
      rw (le-leb REPORT_ROOM (length out) l)
      (p, (q, (rw (q, p) fits, rw (q, p) (sym (ap length (take_at (text (report f)) (drop (0 + length (text (report f))) out) (length (text (report f))) refl))))))
    where
      fits : length (text (report f)) ≤ length (written out 0 (text (report f)))
      fits = rw (length-append (text (report f)) (drop (0 + length (text (report f))) out)) (omega arith)

  -- the answer of `write_report` in a buffer with the room, and the text that is then there
  module _ (l : REPORT_ROOM ≤ length out) {o : List ℕ} (q : o ≡ buffer_after (report_call f (length out)) out) where
    pub by_refusal : (n : ℕ) → refused-with n ≡ size_of (report_call f (length out)) → {r : ℕ} {u : List ℕ} → r ≡ length (text (refused n)) → u ≡ written o 0 (text (refused n)) → Written r u
    by_refusal n p {r} {u} h k =
        let z = go (report f) p q in
        in_text l (h ∙ ap (λ t. length (text t)) z.0) (k ∙ ap₂ (λ o t. written o 0 (text t)) z.1 z.0)
      where
        go : (t : Report) → refused-with n ≡ size_of (text_for (length out) t) → o ≡ buffer_after (text_for (length out) t) out → (refused n ≡ t) × (o ≡ out)
        go (refused m) x y = (cc, y)
        go (allotted g d) x y =
            let x = rw (le-leb REPORT_ROOM (length out) l) at x in
            absurd (let z : ◌≡◌ {A = ℕ} 0 1 = cc in omega arith)

    pub by_text : {n : ℕ} → given n ≡ size_of (report_call f (length out)) → Written n o
    by_text {n} p =
        let z = go (report f) p q in
        in_text l z.0 z.1
      where
        go : (t : Report) → given n ≡ size_of (text_for (length out) t) → o ≡ buffer_after (text_for (length out) t) out → (n ≡ length (text t)) × (o ≡ written out 0 (text t))
        go (refused m) x y = absurd (let z : ◌≡◌ {A = ℕ} 0 1 = cc in omega arith)
        go (allotted g d) x y =
            let x = rw (le-leb REPORT_ROOM (length out) l) at x in
            let y = rw (le-leb REPORT_ROOM (length out) l) at y in
            (cc, y)
