-- A section: its user joins, then its lines are added one after the other. Assumes nothing.
use mathlib.Core.Path.{◌≡◌, refl, sym, ap, ◌∙◌, subst, subst⁻¹}
use mathlib.Core.List.{List, [], ◌∷◌, ◌++◌, map}
use Prim.Native.Nat.{ℕ, ◌+◌, ◌-◌, ◌*◌, ◌^◌, ◌<◌}
use native.Mathlib.Omega.{arith}
use lib.ListN.{get_or}
use Rattle.numbers.specs.declared.Refusal.{Refusal}
use Rattle.numbers.specs.Refusals.{number_of}
use Rattle.numbers.specs.Sums.{table}
use Rattle.numbers.specs.Lists.{flat}
use Rattle.numbers.proofs.Refusals.{refused_not_0}
use Rattle.point_day.specs.Limits.{USERS}
use Rattle.point_day.proofs.Back.{map_table}
use Rattle.day_book.specs.Run.{Call, join}
use Rattle.line.specs.declared.cells.LineEntry.{LineEntry}
use Rattle.day_file.specs.declared.Section.{Section}
use Rattle.day_file.specs.Form.{USER, LINE, u8, u16, u32, pair_count, section_at, sections, line_count}
use Rattle.day_file.specs.File.{user_of, line_at, section_calls}
use Rattle.file_lines.specs.declared.lines.Entering.{Entering}
use Rattle.file_lines.specs.Entering.{day_of, HoldsAt, Holds}
use Rattle.file_lines.specs.Pieces.{user_refusal, joined, line_refusal, offtake_with, lined}
use Rattle.file_lines.proofs.Steps.{user_joined, user_refused}
use Rattle.file_lines.proofs.Leading.{Leads, Stops, leads_then, leads_stop, stops_there, table_rest, table_next, flat_next, flat_rest, line_goes, line_stops}

-- a user's line as it stands in the file from a place on
abbrev pub entry_at : List ℕ → ℕ → ℕ → LineEntry
entry_at f u a = record { user = u; kind = u8 f a; consumption = u32 f (a + 1); coefficient = u16 f (a + 5) }

-- ---- the lines of a section

module _ (f : List ℕ) (s : Section) (i : ℕ) (e₀ : Entering) where
  -- the user has joined, and the first j lines are added, with which all consumption and losses sum to x
  pub record Lines (e : Entering) (x j : ℕ) : Type 0 where
    pub room : i < USERS
    pub here : get_or e.users i 0 ≡ user_of f s
    pub holds : HoldsAt (i + 1) e x
    pub leads : Leads (join (user_of f s) ∷ table (line_at f s) j) (day_of e₀ i) (day_of e (i + 1))

  -- the user
  module _ {limit u : ℕ} (h : Holds i e₀) (m : limit ≡ USERS) (q : u ≡ user_of f s) (l : u < 256 ^ 2) where
    pub no_lines : {e : Entering} → 0 ≡ user_refusal limit u i e₀.users → e ≡ joined i u e₀ → Lines e e.offtake 0
    unfolding table
    no_lines w k =
        let j = user_joined h u (omega arith) (w ∙ ap (λ n. user_refusal n u i e₀.users) m) refl refl in
        subst (λ e. Lines e e.offtake 0) (sym k) (record { room = j.room; here = j.here ∙ q; holds = j.entered; leads = λ g w rest r. rw (sym q) (j.goes_on g w rest r) })

    pub user_stops : (n : Refusal) → number_of n ≡ user_refusal limit u i e₀.users → Stops (number_of n) (section_calls f s) (day_of e₀ i)
    user_stops n w g t rest r =
        rw (sym q) (user_refused h u (omega arith) (w ∙ ap (λ k. user_refusal k u i e₀.users) m) (refused_not_0 n) g t (table (line_at f s) (line_count s) ++ rest) r)

  -- a line
  module _ {e : Entering} {x j : ℕ} (so_far : Lines e x j) {u : ℕ} (q : u ≡ user_of f s) {l : LineEntry} (p : l ≡ entry_at f u (s.offset + USER + LINE * j)) where
    abbrev entry : LineEntry
    entry = entry_at f (user_of f s) (s.offset + USER + LINE * j)

    is_entry : l ≡ entry
    is_entry = p ∙ ap (λ u. entry_at f u (s.offset + USER + LINE * j)) q

    pub one_more_line : {e' : Entering} {x' : ℕ} → 0 ≡ line_refusal l x → x' ≡ offtake_with l x → e' ≡ lined i l e → Lines e' x' (j + 1)
    one_more_line {e'} w y k =
        let goes = line_goes i e so_far.holds entry so_far.here (w ∙ ap (λ (l : LineEntry). line_refusal l x) is_entry) in
        subst (λ x. Lines e' x (j + 1)) (sym (y ∙ ap (λ l. offtake_with l x) is_entry))
        (subst (λ e. Lines e (offtake_with entry x) (j + 1)) (sym (k ∙ ap (λ l. lined i l e) is_entry)) (record {
          room = so_far.room;
          here = so_far.here;
          holds = goes.0;
          leads =
              subst (λ t. Leads (join (user_of f s) ∷ t) (day_of e₀ i) (day_of (lined i entry e) (i + 1))) (table_next (line_at f s) j)
              (leads_then (day_of e₀ i) (day_of e (i + 1)) (day_of (lined i entry e) (i + 1)) (join (user_of f s) ∷ table (line_at f s) j) (line_at f s j ∷ []) so_far.leads goes.1);
        }))

    pub lines_stop : (n : Refusal) → number_of n ≡ line_refusal l x → j < line_count s → Stops (number_of n) (section_calls f s) (day_of e₀ i)
    lines_stop n w b =
        let stops = line_stops i e so_far.holds entry so_far.here n (w ∙ ap (λ (l : LineEntry). line_refusal l x) is_entry) in
        subst⁻¹ (λ t. Stops (number_of n) (join (user_of f s) ∷ t) (day_of e₀ i)) (table_rest (line_at f s) (j + 1) (line_count s) (omega arith))
        (stops_there (day_of e₀ i) (join (user_of f s) ∷ table (line_at f s) (j + 1)) (table (λ k. line_at f s ((j + 1) + k)) (line_count s - (j + 1)))
        (subst (λ t. Stops (number_of n) (join (user_of f s) ∷ t) (day_of e₀ i)) (table_next (line_at f s) j)
        (leads_stop (day_of e₀ i) (day_of e (i + 1)) (join (user_of f s) ∷ table (line_at f s) j) (line_at f s j ∷ []) so_far.leads stops)))

  pub all_lines : {e : Entering} {x j : ℕ} → Lines e x j → j ≡ line_count s → Leads (section_calls f s) (day_of e₀ i) (day_of e (i + 1))
  all_lines {e} so_far k = subst (λ n. Leads (join (user_of f s) ∷ table (line_at f s) n) (day_of e₀ i) (day_of e (i + 1))) k so_far.leads

-- ---- all sections

abbrev pub calls_at : List ℕ → ℕ → List Call
calls_at f j = section_calls f (section_at f j)

module _ (f : List ℕ) (e₀ : Entering) where
  all_calls : flat (map (section_calls f) (sections f)) ≡ flat (table (calls_at f) (pair_count f))
  all_calls = ap flat (map_table (section_calls f) (section_at f) (pair_count f))

  -- the first i sections are entered
  pub record Sections (e : Entering) (i : ℕ) : Type 0 where
    pub holds : Holds i e
    pub leads : Leads (flat (table (calls_at f) i)) (day_of e₀ 0) (day_of e i)

  pub no_sections : Holds 0 e₀ → Sections e₀ 0
  unfolding table flat
  no_sections h = record { holds = h; leads = λ g m rest h. refl }

  pub all_sections : {e : Entering} {n : ℕ} → Sections e n → n ≡ pair_count f → Leads (flat (map (section_calls f) (sections f))) (day_of e₀ 0) (day_of e n)
  all_sections {e} {n} h k = subst⁻¹ (λ t. Leads t (day_of e₀ 0) (day_of e n)) (all_calls ∙ ap (λ k. flat (table (calls_at f) k)) (sym k)) h.leads

  module _ {e : Entering} {i : ℕ} (so_far : Sections e i) where
    pub one_more_section : {e' : Entering} → Holds (i + 1) e' → Leads (calls_at f i) (day_of e i) (day_of e' (i + 1)) → Sections e' (i + 1)
    one_more_section {e'} h k = record {
      holds = h;
      leads =
          subst (λ t. Leads t (day_of e₀ 0) (day_of e' (i + 1))) (flat_next (calls_at f) i)
          (leads_then (day_of e₀ 0) (day_of e i) (day_of e' (i + 1)) (flat (table (calls_at f) i)) (calls_at f i) so_far.leads k);
    }

    pub sections_stop : {n : ℕ} → Stops n (calls_at f i) (day_of e i) → i < pair_count f → Stops n (flat (map (section_calls f) (sections f))) (day_of e₀ 0)
    sections_stop {n} k l =
        subst⁻¹ (λ t. Stops n t (day_of e₀ 0)) (all_calls ∙ flat_rest (calls_at f) (i + 1) (pair_count f) (omega arith))
        (stops_there (day_of e₀ 0) (flat (table (calls_at f) (i + 1))) (flat (table (λ j. calls_at f ((i + 1) + j)) (pair_count f - (i + 1))))
        (subst (λ t. Stops n t (day_of e₀ 0)) (flat_next (calls_at f) i)
        (leads_stop (day_of e₀ 0) (day_of e i) (flat (table (calls_at f) i)) (calls_at f i) so_far.leads k)))
