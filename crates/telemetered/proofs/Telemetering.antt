-- From the tests and the search of a telemetered point to its answer. Assumes nothing.
use mathlib.Core.Path.{◌≡◌, refl}
use mathlib.Core.Bool.{Bool, true, false, not}
use mathlib.Core.List.{List, [], ◌∷◌}
use Prim.Native.Nat.{ℕ, ◌≤◌, ◌<◌}
use lib.Dec.{leb, eqb, eqb-suc-zero}
use lib.ListN.{length, take}
use lib.Seq.{take_all, length-take-le}
use native.Mathlib.Omega.{arith}
use borrow.Author.Tests.{leb-true, le-leb, lt-leb}
use Rattle.numbers.specs.Nearest.{nearest}
use Rattle.numbers.specs.Sums.{pick}
use Rattle.numbers.specs.Lists.{both, every}
use Rattle.numbers.proofs.Lists.{both_fst, both_snd}
use Rattle.numbers.proofs.Places.{every_until, until_every}
use Rattle.numbers.specs.Refusals.{OUT_OF_RANGE, NO_BASIS}
use Rattle.calendar.specs.Answers.{refused, given, tested}
use Rattle.numbers.proofs.Sums.{cases}
use mathlib.Core.Logic.{⊎_elim}
use Rattle.history.specs.History.{ENTRIES, Dated, RealReading, entry_right, history_right, last_three, sum_of, mean_value, looked_at, is_empty, is_new}
use Rattle.history.specs.Search.{found_in}
use Rattle.history.proofs.Searching.{nothing}
use Rattle.telemetered.specs.Telemetered.{with_basis, from_history, from_found, first_of, values_right, telemetered}
use Rattle.supply.specs.NewConsumer.{new_consumption}
use Rattle.std.specs.Prelude.{Option, None, Some}
use Rattle.std.specs.Option.{option_or}
use Rattle.supply.specs.declared.Flows.{Flows}
use Rattle.history.specs.declared.Entry.{Entry}
use Rattle.telemetered.specs.declared.own_value.OwnValue.{OwnValue}

-- ---- what the tests tell

module _ (d n : ℕ) (es : List Entry) (h : history_right d n es ≡ true) where
  pub history_days : n ≤ d
  unfolding history_right
  history_days = leb-true n d (both_snd (leb n ENTRIES) _ (both_fst _ _ h))

  pub history_entries : every entry_right (take n es) ≡ true
  unfolding history_right
  history_entries = both_snd (both (leb n ENTRIES) (leb n d)) _ h

  pub history_short : n ≤ ENTRIES
  unfolding history_right
  history_short = leb-true n ENTRIES (both_fst _ (leb n d) (both_fst _ _ h))

  pub length_counted : length es ≡ ENTRIES → (k : ℕ) → k ≤ n → length (take k es) ≡ k
  length_counted full k l = length-take-le k es (omega (arith, full, l, history_short))

  -- its first entries are a history too
  pub right_counted : length es ≡ ENTRIES → (k : ℕ) → k ≤ n → history_right d (length (take k es)) (take k es) ≡ true
  unfolding history_right
  right_counted full k l =
      let m = length_counted full k l in
      let right = until_every entry_right nothing k es (omega (arith, full, l, history_short)) (λ i j. every_until entry_right nothing n es (omega (arith, full, history_short)) history_entries i (omega arith)) in
      rw (m, take_all k (take k es) (omega (arith, m)), le-leb k ENTRIES (omega (arith, l, history_short)), le-leb k d (omega (arith, l, history_days))) right

-- the first of two amounts, as the code takes it
pub first_is : (a b : Option ℕ) → first_of a b ≡ option_or a b
first_is None b = refl
first_is (Some v) b = refl

-- ---- what the search leads to

pub found_answer : (hs : List ℕ) (d : ℕ) (f : Flows) (n : ℕ) (xs : List Dated) → from_found f (found_in hs d n xs) ≡ from_history hs d f n xs
unfolding from_found found_in from_history
found_answer hs d f n xs = go (last_three hs d xs) (is_new xs)
  where
    go : (ms : List RealReading) (new : Bool)
        → pick (eqb (length ms) 0) (pick (not new) (refused NO_BASIS) (with_basis (new_consumption f) (looked_at d n ms))) (given (record { kwh = nearest (sum_of ms) (length ms); looked = looked_at d n ms }))
        ≡ pick (is_empty ms) (pick new (with_basis (new_consumption f) n) (refused NO_BASIS)) (given (record { kwh = mean_value ms; looked = looked_at d n ms }))
    go [] true = unfold looked_at in refl
    go [] false = refl
    go (m ∷ ms) new = rw (eqb-suc-zero (length ms)) (unfold mean_value in refl)

-- ---- two histories with the same entries that count give the same answer, and one that is too long is refused

module _ (d : ℕ) (hs : List ℕ) (reading : Option ℕ) (own : Option OwnValue) (f : Flows) (n : ℕ) where
  pub same_answer : (es fs : List Entry) → take n es ≡ take n fs → telemetered d hs reading own f n es ≡ telemetered d hs reading own f n fs
  unfolding telemetered history_right
  same_answer es fs e = rw e

  pub too_long : (es : List Entry) → ENTRIES < n → telemetered d hs reading own f n es ≡ refused OUT_OF_RANGE
  unfolding telemetered history_right tested
  too_long es l = rw (lt-leb n ENTRIES l) (⊎_elim (λ e. rw e) (λ e. rw e) (cases (values_right d hs reading own f)))

  pub counted : (es : List Entry) → length (take n es) ≡ n → telemetered d hs reading own f (length (take n es)) (take n es) ≡ telemetered d hs reading own f n es
  counted es e = rw e (same_answer (take n es) es (take_all n (take n es) (omega (arith, e))))
