-- `estimates_from_bytes::profile` reads onward, one thing after the other. Assumes nothing.
use Rattle.console.proofs.Onward.{onward_then}
use Rattle.estimates_from_bytes.proofs.profile.Goals as goal

pub returns-in_err-n2 : goal.returns-in_err-n2
returns-in_err-n2 c =
    let two = onward_then c.args.input.now c.read.new.input c.read-2.new.input c.read.ensures.onward c.read-2.ensures.onward in
    let three = onward_then c.args.input.now c.read-2.new.input c.read-3.new.input two c.read-3.ensures.onward in
    let four = onward_then c.args.input.now c.read-3.new.input c.read-4.new.input three c.read-4.ensures.onward in
    let five = onward_then c.args.input.now c.read-4.new.input c.read-5.new.input four c.read-5.ensures.onward in
    onward_then c.args.input.now c.read-5.new.input c.read-6.new.input five c.read-6.ensures.onward
