-- Document 01, "Telemetered", and document 02, Req 01. Assumes nothing.
use Rattle.std.specs.Prelude.{Bool, not, List, [], ◌∷◌, ℕ, eqb, take, Option, None, Some}
use Rattle.numbers.specs.Nearest.{nearest}
use Rattle.numbers.specs.Sums.{pick}
use Rattle.numbers.specs.Lists.{both}
use Rattle.numbers.specs.Refusals.{OUT_OF_RANGE, NO_BASIS, WRONG_ARRIVAL}
use Rattle.calendar.specs.Answers.{Answer, refused, given, ◌when◌, tested}
use Rattle.calendar.specs.Days.{calendar_right}
use Rattle.supply.specs.Amounts.{amount_right, flows_right}
use Rattle.supply.specs.NewConsumer.{new_consumption}
use Rattle.history.specs.History.{Dated, history_right, dated, last_three, mean_value, looked_at, is_empty, is_new}
use Rattle.supply.specs.declared.Flows.{Flows}
use Rattle.history.specs.declared.Entry.{Entry}
use Rattle.history.specs.declared.Found.{Found}
use Rattle.telemetered.specs.OwnValue.{value_sent, arrival_right, value_to_use}
use Rattle.telemetered.specs.declared.Estimate.{Estimate}
use Rattle.telemetered.specs.declared.own_value.OwnValue.{OwnValue}

-- an amount, or no basis
abbrev pub with_basis : Option ℕ → ℕ → Answer Estimate
with_basis None looked = refused NO_BASIS
with_basis (Some v) looked = given (record { kwh = v; looked = looked })

-- the estimate from a history of n entries: the mean of the last three, or that of a new consumer
unfoldable pub from_history : List ℕ → ℕ → Flows → ℕ → List Dated → Answer Estimate
from_history hs d f n xs =
    let ms = last_three hs d xs in
    pick (is_empty ms)
    (pick (is_new xs) (with_basis (new_consumption f) n) (refused NO_BASIS))
    (given (record { kwh = mean_value ms; looked = looked_at d n ms }))

-- the same, of what a search finds
unfoldable pub from_found : Flows → Found → Answer Estimate
from_found f x =
    pick (eqb x.matches 0)
    (pick x.real (refused NO_BASIS) (with_basis (new_consumption f) x.looked))
    (given (record { kwh = nearest x.sum x.matches; looked = x.looked }))

-- the first of two amounts that is there
abbrev pub first_of : Option ℕ → Option ℕ → Option ℕ
first_of None a = a
first_of (Some v) a = Some v

-- an amount that is there is the answer, with nothing looked at; else what comes after it
abbrev pub or_else : Option ℕ → Answer Estimate → Answer Estimate
or_else None a = a
or_else (Some v) a = given (record { kwh = v; looked = 0 })

-- everything given is in its range, used or not: "2, which late values are held to as well". `own` is the user's own value, if sent.
unfoldable pub values_right : ℕ → List ℕ → Option ℕ → Option OwnValue → Flows → Bool
values_right d hs reading own f =
    both (calendar_right d hs) (both (amount_right reading) (both (amount_right (value_sent own)) (flows_right f)))

-- "The reading if there is one; else the user's own value if sent ..; else the mean of the last three real readings on days
-- of the gas day's type; else, for a new consumer, Q_a / 210 (toll 3.4) or Q_d × f_c"; 16 "checked right after 2"
unfoldable pub telemetered : ℕ → List ℕ → Option ℕ → Option OwnValue → Flows → ℕ → List Entry → Answer Estimate
telemetered d hs reading own f n es =
    tested
    ((OUT_OF_RANGE when not (values_right d hs reading own f))
    ∷ (OUT_OF_RANGE when not (history_right d n es))
    ∷ (WRONG_ARRIVAL when not (arrival_right own))
    ∷ [])
    (or_else (first_of reading (value_to_use own)) (from_history hs d f n (dated d (take n es))))
