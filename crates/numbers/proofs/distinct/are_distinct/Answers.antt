-- `numbers::distinct::are_distinct` meets its contract: the numbers passed so far are distinct, and their buckets are marked. Assumes nothing.
use Rattle.std.proofs.Common.{◌≡◌, false, sym, ◌∙◌, ap, map, take, arith}
use Rattle.std.proofs.lemmas.List.{length-map, take_all}
use Rattle.numbers.specs.Lists.{has, distinct}
use Rattle.numbers.proofs.Buckets.{scanned_none, scanned_new, scanned_more, scanned_twice, searched}
use Rattle.numbers.proofs.distinct.are_distinct.Goals as goal
use Rattle.numbers.proofs.distinct.are_distinct.Goals.{else-mark-via-then-mark+else-contains, else-mark-via-else-mark}

pub loop-i-init : goal.loop-i-init
loop-i-init g c = rw c.none-marks.ensures (scanned_none _)

pub returns-then-contains : goal.returns-then-contains
returns-then-contains g c =
    let number = g.T.Natural.number in
    let xs = c.args.xs.now in
    let is = c.index-xs-i.is in
    let found = searched number xs _ (omega arith) is c.number.ensures g.T.PartialEq.eq g.met.T.Natural.equal c.contains.ensures.value c.if-contains.true in
    sym (scanned_twice number xs _ (omega arith) is c.number.ensures found)

pub loop-i-preserved : goal.loop-i-preserved
loop-i-preserved g c =
    let number = g.T.Natural.number in
    let xs = c.args.xs.now in
    let is = c.index-xs-i.is in
    let new : has c.number.result (take c.loop-i.i (map number xs)) ≡ false =
    elim c.else-mark.branch [
      | else-mark-via-then-mark+else-contains w ↦ searched number xs _ (omega arith) is c.number.ensures g.T.PartialEq.eq g.met.T.Natural.equal w.contains.ensures.value w.if-contains.false
      | else-mark-via-else-mark w ↦ scanned_new c.loop-i.invariant c.number.result c.mark.ensures.was w.if-mark.false
    ] in
    rw c.mark.ensures.after (scanned_more number xs _ (omega arith) is c.number.ensures c.loop-i.marks.marked c.loop-i.invariant new)

pub returns : goal.returns
returns g c =
    let t = g.T.Natural in
    sym (ap distinct (sym (take_all c.loop-i.i (map t.number c.args.xs.now) (omega (arith, length-map c.args.xs.now t.number)))) ∙ c.loop-i.invariant.apart)
