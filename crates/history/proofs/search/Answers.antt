-- `history::search` meets its contract. What is found before place `looked`, and what the rest of the history adds, make what there is to find. Assumes nothing.
use mathlib.Core.Path.{◌≡◌, refl, ap, ap₂, sym, ◌∙◌}
use native.Mathlib.Omega.{arith}
use Rattle.numbers.proofs.Places.{every_at}
use denote.Enum.Bare.{sameb}
use Rattle.calendar.specs.contracts.DayType.{the_type}
use Rattle.calendar.specs.declared.DayType.{DayType}
use Rattle.calendar.specs.declared.DayType.TheVariants.{Working, Saturday, SundayOrHoliday}
use Rattle.calendar.specs.DayTypes.{same_type}
use Rattle.history.specs.History.{entry_right, real_value}
use Rattle.history.proofs.Laws.{not_real}
use Rattle.history.proofs.Searching.{nothing, going_start, going_idle, going_other, going_match, match_small, few_before, third, at_end}
use Rattle.history.proofs.search.Goals as goal
use Rattle.history.proofs.search.Goals.{then-matches-eq-MATCHES-via-then-matches-eq-MATCHES, then-matches-eq-MATCHES-via-else-matches-eq-MATCHES+then-looked-count}

-- types are the same just where the code finds them equal
by_equality : (s t : DayType) → same_type s t ≡ sameb the_type s t
by_equality Working Working = refl
by_equality Working Saturday = refl
by_equality Working SundayOrHoliday = refl
by_equality Saturday Working = refl
by_equality Saturday Saturday = refl
by_equality Saturday SundayOrHoliday = refl
by_equality SundayOrHoliday Working = refl
by_equality SundayOrHoliday Saturday = refl
by_equality SundayOrHoliday SundayOrHoliday = refl

pub loop-matches-init : goal.loop-matches-init
loop-matches-init e c = (going_start _ _ _, c.day_type-wanted.ensures)

pub overflow_add-sum : goal.overflow_add-sum
overflow_add-sum e c =
    let g = c.loop-matches.invariant.0 in
    let more = c.if-matches-eq-MATCHES.false in
    let right = every_at entry_right nothing (e.E.Entries.entries c.args.history.now) c.requires.1 c.loop-matches.looked (omega (arith, g.inside)) in
    omega (arith, match_small _ _ _ g more (omega (arith, g.inside)) nothing (sym c.reading-reading.ensures ∙ c.in-Real.is) right, few_before _ _ _ g more (omega (arith, g.inside)) nothing)

pub loop-matches-preserved-then-eq : goal.loop-matches-preserved-then-eq
loop-matches-preserved-then-eq e c =
    let g = c.loop-matches.invariant.0 in
    let right = every_at entry_right nothing (e.E.Entries.entries c.args.history.now) c.requires.1 c.loop-matches.looked (omega (arith, g.inside)) in
    let same = ap₂ same_type (sym c.type_of.ensures) (sym c.loop-matches.invariant.1) ∙ by_equality _ _ ∙ sym c.if-eq.ensures in
    (going_match _ _ _ g c.if-matches-eq-MATCHES.false (omega (arith, g.inside)) nothing (sym c.reading-reading.ensures ∙ c.in-Real.is) right same, c.loop-matches.invariant.1)

pub loop-matches-preserved-else-eq : goal.loop-matches-preserved-else-eq
loop-matches-preserved-else-eq e c =
    let g = c.loop-matches.invariant.0 in
    let other = ap₂ same_type (sym c.type_of.ensures) (sym c.loop-matches.invariant.1) ∙ by_equality _ _ ∙ sym c.if-eq.ensures in
    (going_other _ _ _ g c.if-matches-eq-MATCHES.false (omega (arith, g.inside)) nothing (sym c.reading-reading.ensures ∙ c.in-Real.is) other, c.loop-matches.invariant.1)

pub loop-matches-preserved : goal.loop-matches-preserved
loop-matches-preserved e c =
    let g = c.loop-matches.invariant.0 in
    (going_idle _ _ _ g c.if-matches-eq-MATCHES.false (omega (arith, g.inside)) nothing (ap real_value (sym c.reading-reading.ensures) ∙ not_real _ c.in_default.not-Real), c.loop-matches.invariant.1)

pub returns : goal.returns
returns e c =
    let g = c.loop-matches.invariant.0 in
    elim c.then-matches-eq-MATCHES.branch [
      | then-matches-eq-MATCHES-via-then-matches-eq-MATCHES w ↦ third _ _ _ g w.if-matches-eq-MATCHES.true c.requires.0
      | then-matches-eq-MATCHES-via-else-matches-eq-MATCHES+then-looked-count w ↦ at_end _ _ _ g w.if-matches-eq-MATCHES.false (w.if-looked-count.true ∙ c.count-count.ensures)
    ]
