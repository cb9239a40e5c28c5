-- `months::month_of_day` meets its contract. `first` is the start of month `n` and not after the day; four years have 1,461 days and 48 months. Assumes nothing.
use mathlib.Core.Path.{sym, ap₂, ◌∙◌}
use Prim.Native.Nat.{◌+◌, ◌/◌, ◌%◌}
use native.Mathlib.Omega.{arith}
use Rattle.months.proofs.Months.{some_length, start_cycles, start_next, is_month, month_is}
use Rattle.months.proofs.month_of_day.Goals as goal

pub loop-first-init : goal.loop-first-init
loop-first-init c =
    let k = c.args.day / 1461 in
    (sym (start_cycles k), c.length_of-days.ensures, omega arith, c.requires)

pub overflow_add-first : goal.overflow_add-first
overflow_add-first c = omega (arith, some_length c.loop-first.n)

pub overflow_add-n : goal.overflow_add-n
overflow_add-n c =
    let l = c.loop-first in
    omega (arith, is_month l.n _ (omega arith) l.invariant.3)

pub length_of-days-requires-in-loop-first : goal.length_of-days-requires-in-loop-first
length_of-days-requires-in-loop-first c =
    let l = c.loop-first in
    is_month (l.n + 1) _ (omega (arith, start_next l.n)) l.invariant.3

pub loop-first-smaller : goal.loop-first-smaller
loop-first-smaller c = omega (arith, some_length c.loop-first.n)

pub loop-first-preserved : goal.loop-first-preserved
loop-first-preserved c =
    let l = c.loop-first in
    (omega (arith, start_next l.n), c.length_of-days-in-loop-first.ensures, omega arith, l.invariant.3)

pub overflow_add-result : goal.overflow_add-result
overflow_add-result c =
    let l = c.loop-first in
    omega (arith, is_month l.n _ (omega arith) l.invariant.3)

pub returns : goal.returns
returns c =
    let l = c.loop-first in
    let d = c.args.day in
    ap₂ (λ f k. record { year = 2016 + l.n / 12; number = 1 + l.n % 12; first = f; days = k }) l.invariant.0 l.invariant.1
    ∙ sym (month_is l.n d l.invariant.3 (record { after = omega arith; before = omega arith }))
