-- `report::lines::of_slot` meets its contract. Assumes nothing.
use mathlib.Core.Path.{◌≡◌, ap, ◌∙◌}
use Prim.Native.Nat.{◌+◌, ◌-◌, ◌*◌}
use lib.ListN.{take, drop, length-take}
use Rattle.numbers.specs.Sums.{totalZ}
use Rattle.numbers.proofs.Amounts.{widen}
use Rattle.state.specs.Places.{ROOM}
use Rattle.report.proofs.lines.Sizes.{within_part, slot_within, wrapped}
use native.Mathlib.Omega.{arith}
use Rattle.report.proofs.lines.of_slot.Goals as goal

pub sum_of-requires : goal.sum_of-requires
sum_of-requires c =
    let s = c.args.slot in
    (omega (arith, length-take ((5 * s + 5) - 5 * s) (drop (5 * s) c.args.xs.now)), λ i. widen (within_part ROOM c.args.xs.now c.requires.1 (5 * s) ((5 * s + 5) - 5 * s) i) (omega arith))

pub returns : goal.returns
returns c =
    let e : (5 * c.args.slot + 5) - 5 * c.args.slot ≡ 5 = omega arith in
    wrapped (c.sum_of.ensures ∙ ap (λ n. totalZ (take n (drop (5 * c.args.slot) c.args.xs.now))) e) (slot_within c.args.xs.now c.requires.1 c.args.slot) (omega arith)
