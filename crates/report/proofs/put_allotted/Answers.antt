-- `report::put_allotted` meets its contract. Assumes nothing.
use Rattle.std.proofs.Common.{ap, ap₂, ◌∙◌, ◌+◌, ◌++◌, ◌-ℤ◌, length, rules, arith}
use Rattle.numbers.specs.Sums.{table}
use Rattle.numbers.specs.Lists.{flat}
use Rattle.numbers.proofs.Amounts.{sfits, within_sub, within_pos}
use Rattle.wire.specs.Text.{written}
use Rattle.day_file.specs.Text.{point_word}
use Rattle.report.proofs.refusal.Writing.{put_first, put_more}
use Rattle.report.proofs.refusal.Casts.{cast_back}
use Rattle.report.specs.Lines.{slot_line}
use Rattle.report.proofs.lines.Sizes.{start_within, wrapped, safe, line_as}
use Rattle.report.specs.Allotted.{offtake_line}
use Rattle.report.proofs.Figures.{cast_safe}
use Rattle.report.proofs.put_allotted.Goals as goal

pub overflow_sub-figures : goal.overflow_sub-figures
overflow_sub-figures c =
    let d = c.args.slots.now in
    let range = start_within d.consumption.now d.small.0 d.count c.requires.4 in
    sfits (within_sub (cast_safe c.args.offtake (omega (arith, c.requires.3))) (safe c.of_slots-c.ensures range (omega arith))) (omega arith)

-- what is written, and how many bytes it has
pub returns : goal.returns
returns c =
    let d = c.args.slots.now in
    let a = c.args in
    let range = start_within d.consumption.now d.small.0 d.count c.requires.4 in
    let day = cast_back a.gas_day (omega (arith, c.requires.1)) in
    let net = cast_back a.net (omega (arith, c.requires.2)) in
    let all = cast_back a.offtake (omega (arith, c.requires.3)) in
    let consumption = wrapped c.of_slots-c.ensures range (omega arith) in
    let losses = wrapped (ap₂ ◌-ℤ◌ all consumption) (within_sub (within_pos a.offtake) range) (omega (arith, c.requires.3)) in
    let balance = wrapped (ap₂ ◌-ℤ◌ net all) (within_sub (within_pos a.net) (within_pos a.offtake)) (omega (arith, c.requires.2, c.requires.3)) in
    let line = line_as point_word day net consumption losses balance in
    let new = c.new-text.result in
    let empty = c.new-text.ensures.empty in
    let p = c.put_line.ensures in
    let u = c.put_users.ensures in
    let us = flat (table (slot_line d.users.now d.consumption.now d.losses.now d.shares.now) d.count) in
    let first = put_first new.buffer.now new.len (offtake_line a.gas_day a.net a.offtake d.count d.consumption.now)
    (p.added.0 ∙ ap (λ t. written new.buffer.now new.len t) line, p.added.1 ∙ ap (λ t. new.len + length t) line)
    (omega (arith, p.bound, empty.0, ap length empty.1, c.requires.0)) in
    let q = put_more first us u.added (omega (arith, u.bound, p.bound, empty.0, ap length empty.1, c.requires.4, c.requires.0)) in
    let e = q.is ∙ ap₂ (λ b i. written b i (offtake_line a.gas_day a.net a.offtake d.count d.consumption.now ++ us)) empty.1 empty.0 in
    record { value = omega (arith, q.end, empty.0); out_after = search (rules, e) }
