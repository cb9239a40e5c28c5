-- `report::lines::Slots::put_user` meets its contract. Assumes nothing.
use Rattle.std.proofs.Common.{refl, ap, ◌∙◌, ◌+◌, ◌<◌, length, rules, arith}
use lib.ListN.{get_or}
use Rattle.numbers.proofs.Amounts.{sfits, within_add, within_pos}
use Rattle.wire.specs.Text.{written}
use Rattle.day_file.specs.Text.{user_word}
use Rattle.report.proofs.lines.Sizes.{slot_within, wrapped, safe, wrapped_sum, line_as}
use Rattle.report.proofs.lines.Slots.put_user.Goals as goal

pub overflow_add-c : goal.overflow_add-c
overflow_add-c c =
    let d = c.args.self.now in
    let h = slot_within d.consumption.now d.small.0 c.args.slot in
    let k = slot_within d.losses.now d.small.1 c.args.slot in
    sfits (within_add (safe c.of_slot-c.ensures h (omega arith)) (safe c.of_slot-l.ensures k (omega arith))) (omega arith)

pub overflow_add-c-2 : goal.overflow_add-c-2
overflow_add-c-2 c =
    let d = c.args.self.now in
    let h = slot_within d.consumption.now d.small.0 c.args.slot in
    let k = slot_within d.losses.now d.small.1 c.args.slot in
    let both = wrapped_sum c.of_slot-c.ensures c.of_slot-l.ensures h k (omega arith) (omega arith) refl in
    sfits (within_add (safe both (within_add h k) (omega arith)) (safe refl (d.small.2 c.args.slot) (omega arith))) (omega arith)

pub returns : goal.returns
returns c =
    let d = c.args.self.now in
    let h = slot_within d.consumption.now d.small.0 c.args.slot in
    let k = slot_within d.losses.now d.small.1 c.args.slot in
    let z = d.small.2 c.args.slot in
    let both = wrapped_sum c.of_slot-c.ensures c.of_slot-l.ensures h k (omega arith) (omega arith) refl in
    let whole = wrapped_sum both refl (within_add h k) z (omega arith) (omega arith) refl in
    let number = get_or d.users.now c.args.slot 0 in
    let low : number < 65536 = search rules in
    let l = line_as user_word
    (wrapped c.from-number.ensures (within_pos number) (omega (arith, low)))
    (wrapped c.of_slot-c.ensures h (omega arith))
    (wrapped c.of_slot-l.ensures k (omega arith))
    (wrapped refl z (omega arith))
    (wrapped whole (within_add (within_add h k) z) (omega arith)) in
    let p = c.put_line.ensures in
    record {
      same_reference = p.same_reference;
      added = (p.added.0 ∙ ap (λ t. written c.args.text.now.buffer.now c.args.text.now.len t) l, p.added.1 ∙ ap (λ t. c.args.text.now.len + length t) l);
      bound = omega (arith, p.bound);
    }
