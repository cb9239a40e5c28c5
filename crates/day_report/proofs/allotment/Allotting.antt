-- The sections of a day file on a measured point-day, and allot. Assumes nothing.
use mathlib.Core.Path.{◌≡◌, refl, sym, ap, ap₂, ◌∙◌, subst}
use mathlib.Core.Bool.{true, false}
use mathlib.Core.List.{List, [], ◌∷◌, ◌++◌, map}
use Prim.Native.Nat.{ℕ, zero, suc, ◌-◌, ◌≤◌, ◌<◌}
use native.Mathlib.Omega.{arith}
use lib.Dec.{leb}
use lib.IntN.{ℤ, pos, nat_abs, ◌-ℤ◌}
use lib.ListN.{length, take, drop, replicate, length-replicate, get_or-append}
use borrow.Author.Tests.{leb-true, le-leb, lt-leb}
use mir.Syntax.{w64}
use mir.Val.{to_z, of_z}
use Rattle.numbers.specs.Sums.{table, atZ, total}
use Rattle.numbers.specs.Lists.{distinct, every, flat}
use Rattle.numbers.specs.Amounts.{Within}
use Rattle.numbers.proofs.Amounts.{size_sub, within_sub, within_pos}
use Rattle.numbers.proofs.Lists.{both_fst, both_snd, all_map, every_all, every_append}
use Rattle.numbers.proofs.Places.{every_at}
use Rattle.numbers.proofs.Sums.{length_table}
use Rattle.proration.proofs.Signs.{lengthZ}
use Rattle.point_day.specs.Limits.{USERS, CELLS, LIMIT}
use Rattle.point_day.specs.Day.{Day, all_offtake, net, no_more, emission_right, measurement_right}
use Rattle.point_day.specs.Calls.{user_shares}
use Rattle.point_day.specs.Struct.{user_at, read, padded, laid, taken}
use Rattle.point_day.specs.declared.Stage.TheVariants.{Provisional}
use Rattle.point_day.specs.declared.Measurement.{Measurement}
use Rattle.point_day.specs.declared.PointDay.{PointDay}
use Rattle.point_day.proofs.Back.{every_drop}
use Rattle.point_day.proofs.Good.{bare_good, taken_good}
use Rattle.state.specs.Places.{ROOM, Small}
use Rattle.state.proofs.Cells.{within_from}
use Rattle.allot.specs.UserWeights.{CellsInRange, basis_weights}
use Rattle.allot.specs.Shared.{shares_of}
use Rattle.allot.proofs.Outcomes.{cells_in_range, allot_8}
use Rattle.allot.proofs.shares.Sharing.{first_shares}
use Rattle.calendar.specs.Answers.{given, answer_of}
use Rattle.day_book.specs.Run.{allot}
use Rattle.day_file.specs.Form.{sections}
use Rattle.day_file.specs.File.{section_calls}
use Rattle.wire.specs.Text.{written}
use Rattle.day_file.specs.Report.{Report, refused, allotted, in_order}
use Rattle.day_file.specs.Text.{text}
use Rattle.report.proofs.refusal.Casts.{cast_back}
use Rattle.report.proofs.lines.Sizes.{wrapped}
use Rattle.report.specs.Allotted.{shares_text}
use Rattle.report.specs.Room.{REPORT_ROOM}
use Rattle.std.specs.Prelude.{Result, Ok, Err}
use Rattle.numbers.specs.declared.Refusal.{Refusal}
use Rattle.numbers.specs.declared.Refusal.TheVariants.{ShortBuffer}
use Rattle.numbers.specs.Refusals.{number_of}
use Rattle.numbers.proofs.Refusals.{refusal_passed}
use Rattle.std.specs.Result.{IsErrAnd}
use Rattle.file_lines.specs.declared.lines.Entering.{Entering}
use Rattle.file_lines.specs.Entering.{entering, Entered, day_of, Holds, unjoined}
use Rattle.file_lines.specs.Pieces.{nothing_entered}
use Rattle.file_lines.proofs.Leading.{Leads, Stops}
use Rattle.file_lines.proofs.Steps.{step, sized, sum_small, few}
use Rattle.day_report.specs.Entered.{entered_and_allotted}
use Rattle.day_report.specs.Answered.{text_for, buffer_after, size_of}
use Rattle.day_report.proofs.allotment.Shares.{after, day_after, shares_day, shares_limited, report_is}
use Rattle.std.specs.Prelude.{Option}
use Rattle.point_day.specs.Day.{metered}

-- ---- a report in a buffer

-- an answer, and what the buffer holds afterwards, are those of a report
abbrev pub Reported : List ℕ → Report → Result ℕ Refusal → List ℕ → Type 0
Reported out t r o = (answer_of r ≡ size_of (text_for (length out) t)) × (o ≡ buffer_after (text_for (length out) t) out)

pub reported : (out : List ℕ) {t u : Report} → t ≡ u → (r : Result ℕ Refusal) {o : List ℕ} → Reported out t r o → Reported out u r o
reported out e r {o} p = subst (λ t. Reported out t r o) e p

pub refusing : (out : List ℕ) (r : Refusal) {t : Report} → refused (number_of r) ≡ t → Reported out t (Err r) out
refusing out r e = reported out e (Err r) (refl, refl)

-- a refusal that is passed on
pub passing : (out : List ℕ) (a : Result ℕ Refusal) (r : Refusal) {t : Report} → IsErrAnd a (λ y. y ≡ r) → refused (number_of r) ≡ t → Reported out t a out
passing out a r {t} h e = subst (λ b. Reported out t b out) (sym (refusal_passed a r h)) (refusing out r e)

short_room : (out : List ℕ) (g : ℕ) (d : Day) → length out < REPORT_ROOM → Reported out (allotted g d) (Err ShortBuffer) out
short_room out g d l = rw (lt-leb REPORT_ROOM (length out) l) (refl, refl)

enough_room : (out : List ℕ) (g : ℕ) (d : Day) → REPORT_ROOM ≤ length out → {r : ℕ} {o : List ℕ} → r ≡ length (text (allotted g d)) → o ≡ written out 0 (text (allotted g d)) → Reported out (allotted g d) (Ok r) o
enough_room out g d l p q = rw (le-leb REPORT_ROOM (length out) l) (ap given p, q)

-- ---- allot

zeros_limited : (k : ℕ) → every (no_more LIMIT) (replicate k (pos 0)) ≡ true
unfolding every
zeros_limited zero = refl
zeros_limited (suc k) = zeros_limited k

module _ {n : ℕ} {us : List ℕ} {cs ls : List ℤ} {x : ℕ} (s : Entered n us cs ls x) (e w : ℕ) (r : emission_right e w ≡ true) where
  abbrev p : PointDay
  p = entering n us cs ls (metered e w)

  pub downstream_low : w ≤ e
  downstream_low = leb-true w e (both_snd (leb e LIMIT) (leb w e) r)

  pub emission_low : e ≤ LIMIT
  emission_low = leb-true e LIMIT (both_fst (leb e LIMIT) (leb w e) r)

  pub balance_small : {b : ℤ} → b ≡ pos (e - w) -ℤ pos x → Within LIMIT b
  balance_small q = record { size = rw q (size_sub (e - w) x LIMIT (omega (arith, emission_low)) (sum_small s)) }

  -- the balance as a callee has it
  pub difference : {b : ℤ} → b ≡ to_z w64 (e - w) -ℤ to_z w64 x → to_z w64 (of_z w64 b) ≡ pos (e - w) -ℤ pos x
  difference q =
      wrapped (q ∙ ap₂ ◌-ℤ◌ (cast_back (e - w) (omega (arith, emission_low))) (cast_back x (omega (arith, sum_small s))))
      (within_sub (within_pos (e - w)) (within_pos x)) (omega (arith, emission_low, sum_small s))

  pub in_range : CellsInRange cs ls
  in_range = unfold entering in cells_in_range p (sized s (metered e w)) (s.taken (metered e w) r)

  pub no_user : n ≡ 0 → (g : ℕ) → refused 8 ≡ in_order g (allot ∷ []) p
  no_user h g =
      sym (step g allot [] p (allot_8 p (sized s (metered e w)) (s.taken (metered e w) r) (unfold entering in refl) (unfold entering in refl) (unfold entering in h)))

  offtake_is : x ≡ all_offtake (read p).users
  offtake_is = s.sum ∙ (unfold read user_at entering in refl)

  module _ (h : n ≡ 0 → ⊥) (g : ℕ) (out : List ℕ) where
    allots : in_order g (allot ∷ []) p ≡ allotted g (after p (sized s (metered e w)) (s.taken (metered e w) r) (unfold entering in refl) e w (unfold entering in refl) (unfold entering in h))
    allots = day_after p (sized s (metered e w)) (s.taken (metered e w) r) (unfold entering in refl) e w (unfold entering in refl) (unfold entering in h) g

    pub no_room : length out < REPORT_ROOM → Reported out (in_order g (allot ∷ []) p) (Err ShortBuffer) out
    no_room l = reported out (sym allots) (Err ShortBuffer) (short_room out g _ l)

    pub with_room : REPORT_ROOM ≤ length out → {t : List ℕ} → t ≡ text (in_order g (allot ∷ []) p) → {r : ℕ} {o : List ℕ} → r ≡ length t → o ≡ written out 0 t
        → Reported out (in_order g (allot ∷ []) p) (Ok r) o
    with_room l k {r} u v =
        reported out (sym allots) (Ok r)
        (enough_room out g _ l (u ∙ ap length (k ∙ ap text allots)) (v ∙ ap (λ t. written out 0 t) (k ∙ ap text allots)))

  module _ (h : n ≡ 0 → ⊥) {b : ℤ} (q : b ≡ pos (e - w) -ℤ pos x) {zs₀ zs : List ℤ} (o : zs₀ ≡ replicate USERS (pos 0)) (k : zs ≡ shares_of b cs ls (take n us) (length (take n us)) ++ drop (length (take n us)) zs₀) where
    in_front : zs ≡ shares_of b cs ls us n ++ drop n zs₀
    in_front = k ∙ first_shares b cs ls us n (omega (arith, few s, s.users)) zs₀

    net_is : pos (e - w) ≡ net (read p)
    net_is = unfold read entering in refl

    shares_are : user_shares (read p) ≡ shares_of b cs ls us n
    shares_are =
        unfold entering in
        sym
        (shares_day p (sized s (metered e w)) (s.taken (metered e w) r) refl e w refl h
        (q ∙ ap₂ (λ m a. m -ℤ pos a) net_is offtake_is))

    length_shares : length (shares_of b cs ls us n) ≡ n
    length_shares = lengthZ b (basis_weights cs ls n) (take n us) ∙ length_table _ n

    at_share : (i : ℕ) → i < n → atZ (user_shares (read p)) i ≡ atZ zs i
    at_share i l =
        ap (λ t. atZ t i) shares_are
        ∙ sym (get_or-append (shares_of b cs ls us n) (drop n zs₀) (pos 0) i (omega (arith, length_shares)))
        ∙ sym (ap (λ t. atZ t i) in_front)

    pub by_shares : (g : ℕ) → shares_text g (e - w) x n us cs ls zs ≡ text (in_order g (allot ∷ []) p)
    by_shares g =
        unfold entering in
        report_is p (sized s (metered e w)) (s.taken (metered e w) r) refl e w refl h zs at_share x offtake_is g

    pub shares_small : Small zs
    shares_small =
        within_from LIMIT zs (λ i m l. leb-true (nat_abs (atZ zs i)) LIMIT (every_at (no_more LIMIT) (pos 0) zs all i l)) ROOM (omega arith)
      where
        first : every (no_more LIMIT) (shares_of b cs ls us n) ≡ true
        first =
            ap (every (no_more LIMIT)) (sym shares_are)
            ∙ every_all (no_more LIMIT) (user_shares (read p))
            (all_map (λ z. nat_abs z ≤ LIMIT) (λ z. no_more LIMIT z ≡ true) (λ z l. le-leb (nat_abs z) LIMIT l) (user_shares (read p))
            (unfold entering in shares_limited p (sized s (metered e w)) (s.taken (metered e w) r) refl e w refl h))

        all : every (no_more LIMIT) zs ≡ true
        all =
            ap (every (no_more LIMIT)) (in_front ∙ ap (λ t. shares_of b cs ls us n ++ drop n t) o)
            ∙ every_append (no_more LIMIT) (shares_of b cs ls us n) (drop n (replicate USERS (pos 0))) first
            (every_drop (no_more LIMIT) n (replicate USERS (pos 0)) (zeros_limited USERS))

-- ---- a measured point-day without users

empty_day : Option Measurement → Day
empty_day m = record { stage = Provisional; allotted = false; measurement = m; users = [] }

unjoined_laid : (m : Option Measurement) → unjoined m ≡ laid (empty_day m)
unfolding unjoined entering laid padded flat empty_day
unjoined_laid m = refl

pub unjoined_taken : (m : Option Measurement) → measurement_right m ≡ true → taken (unjoined m) ≡ true
unfolding empty_day
unjoined_taken m h =
    ap taken (unjoined_laid m)
    ∙ taken_good (empty_day m) (pos 0) (bare_good (empty_day m) (pos 0) refl (omega arith) (unfold distinct in refl) h tt tt (unfold total in omega arith))

pub none_entered : Entered 0 (replicate USERS 0) (replicate CELLS (pos 0)) (replicate CELLS (pos 0)) 0
none_entered = record {
  users = length-replicate {A = ℕ} USERS 0;
  consumption = length-replicate CELLS (pos 0);
  losses = length-replicate CELLS (pos 0);
  taken = λ m h. unfold unjoined in unjoined_taken m h;
  sum = unfold read entering table total in refl;
}

pub nothing_holds : {e : Entering} → e ≡ nothing_entered → Holds 0 e
nothing_holds k = subst (Holds 0) (sym k) none_entered

-- ---- the sections

module _ (f : List ℕ) {e₀ : Entering} (z : e₀ ≡ nothing_entered) (n : ℕ) (e : Entering) (m : Option Measurement) (r : measurement_right m ≡ true) where
  from : day_of e₀ 0 ≡ unjoined
  unfolding unjoined
  from = ap (λ e. day_of e 0) z

  pub sections_refuse : (x : Refusal) → Stops (number_of x) (flat (map (section_calls f) (sections f))) (day_of e₀ 0) → (g : ℕ) → refused (number_of x) ≡ entered_and_allotted f g m
  sections_refuse x k g = sym (subst (Stops (number_of x) (flat (map (section_calls f) (sections f)))) from k g m (allot ∷ []) r)

  pub sections_lead : Leads (flat (map (section_calls f) (sections f))) (day_of e₀ 0) (day_of e n) → (g : ℕ) → in_order g (allot ∷ []) (day_of e n m) ≡ entered_and_allotted f g m
  sections_lead k g = sym (subst (λ d. Leads (flat (map (section_calls f) (sections f))) d (day_of e n)) from k g m (allot ∷ []) r)
