-- `seatpomelo::seatpomelo_telemetered` meets its contract. Lists of unequal length are refused; else the answer of the call. Assumes nothing.
use mathlib.Core.Path.{sym, ap}
use mathlib.Core.List.{[], ◌∷◌}
use Prim.Native.Nat.{◌+◌}
use native.Mathlib.Omega.{arith}
use lib.ListN.{length}
use borrow.Author.Tests.{eq-eqb, ne_eqb}
use Rattle.history.specs.History.{ENTRIES}
use Rattle.telemetered.proofs.Telemetering.{too_long}
use Rattle.seatpomelo.specs.Settled.{settles, estimate_numbers}
use Rattle.plain_values.specs.Lists.{amount_in, own_in, flows_in, entries_in}
use Rattle.plain_values.proofs.Spelled.{as_many}
use Rattle.seatpomelo.proofs.seatpomelo_telemetered.Goals as goal

pub returns-then-tags-values : goal.returns-then-tags-values
returns-then-tags-values c =
    let s = c.args in
    let f = flows_in s.toll s.yearly.now s.daily.now s.factor in
    let es = entries_in s.tags.now s.values.now in
    let long = too_long s.day s.holidays.now (amount_in s.reading.now) (own_in s.own.now s.arrival s.day_length) f in
    rw (c.status.ensures, ne_eqb (length s.tags.now) (length s.values.now) (λ e. omega arith)) (sym (ap (λ a. settles estimate_numbers a (s.consumption.now ∷ s.looked_at.now ∷ [])) (long (ENTRIES + 1) es (omega arith))))

pub returns-in-Ok : goal.returns-in-Ok
returns-in-Ok c =
    let s = c.args in
    let f = flows_in s.toll s.yearly.now s.daily.now s.factor in
    let told = rw (c.amount_in.ensures, c.own_in.ensures, c.flows_in.ensures, as_many s.tags.now s.values.now) at c.in-Ok.ensures in
    rw (eq-eqb (length s.tags.now) (length s.values.now) (omega arith)) (ap (λ x. settles estimate_numbers x (s.consumption.now ∷ s.looked_at.now ∷ [])) told)

pub returns-in-Err : goal.returns-in-Err
returns-in-Err c =
    let s = c.args in
    let f = flows_in s.toll s.yearly.now s.daily.now s.factor in
    let told = rw (c.amount_in.ensures, c.own_in.ensures, c.flows_in.ensures, as_many s.tags.now s.values.now) at c.in-Err.ensures in
    rw (c.status-in-Err.ensures, eq-eqb (length s.tags.now) (length s.values.now) (omega arith)) (ap (λ x. settles estimate_numbers x (s.consumption.now ∷ s.looked_at.now ∷ [])) told)
