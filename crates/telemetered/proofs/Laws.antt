-- What a user's own value comes to. Assumes nothing.
use mathlib.Core.Path.{◌≡◌, refl}
use mathlib.Core.Bool.{true}
use mathlib.Core.List.{List}
use Prim.Native.Nat.{ℕ, ◌-◌, ◌≤◌, ◌<◌}
use borrow.Author.Tests.{le-leb, lt-leb}
use Rattle.std.specs.Prelude.{Option, None, Some}
use Rattle.calendar.specs.Answers.{given, tested}
use Rattle.supply.specs.Amounts.{amount_right}
use Rattle.supply.specs.declared.Flows.{Flows}
use Rattle.history.specs.History.{history_right}
use Rattle.history.specs.declared.Entry.{Entry}
use Rattle.telemetered.specs.OwnValue.{value_sent, arrival_right}
use Rattle.telemetered.specs.Telemetered.{values_right, telemetered}
use Rattle.telemetered.specs.declared.own_value.OwnValue.{OwnValue}

module _ (d : ℕ) (hs : List ℕ) (v : OwnValue) (f : Flows) (n : ℕ) (es : List Entry) where
  -- one that arrives in time is the answer where there is no reading
  pub in_time : values_right d hs None (Some v) f ≡ true → history_right d n es ≡ true → arrival_right (Some v) ≡ true
      → v.arrival ≤ v.length - 720
      → telemetered d hs None (Some v) f n es ≡ given (record { kwh = v.kwh; looked = 0 })
  unfolding telemetered tested
  in_time right history arrival l = rw (right, history, arrival, le-leb _ _ l) refl

  -- a late one and none sent give the same answer, refusals 2 and 16 apart
  pub late : (reading : Option ℕ) → amount_right (value_sent (Some v)) ≡ true → arrival_right (Some v) ≡ true
      → v.length - 720 < v.arrival
      → telemetered d hs reading (Some v) f n es ≡ telemetered d hs reading None f n es
  unfolding telemetered values_right tested
  late reading amount arrival l = rw (amount, arrival, lt-leb _ _ l) refl
