-- `estimates_from_bytes::other_toll` reads onward, one thing after the other. Assumes nothing.
use Rattle.console.proofs.Onward.{onward_then}
use Rattle.estimates_from_bytes.proofs.other_toll.Goals as goal

pub returns-in_err-read-3 : goal.returns-in_err-read-3
returns-in_err-read-3 c =
    let two = onward_then c.args.input.now c.read.new.input c.read_list.new.input c.read.ensures.onward c.read_list.ensures.onward in
    let three = onward_then c.args.input.now c.read_list.new.input c.read_optional.new.input two c.read_optional.ensures in
    let four = onward_then c.args.input.now c.read_optional.new.input c.read-2.new.input three c.read-2.ensures.onward in
    let five = onward_then c.args.input.now c.read-2.new.input c.read_optional-2.new.input four c.read_optional-2.ensures in
    let six = onward_then c.args.input.now c.read_optional-2.new.input c.read_optional-3.new.input five c.read_optional-3.ensures in
    onward_then c.args.input.now c.read_optional-3.new.input c.read-3.new.input six c.read-3.ensures.onward

pub returns-in_err-read-4 : goal.returns-in_err-read-4
returns-in_err-read-4 c =
    let two = onward_then c.args.input.now c.read.new.input c.read_list.new.input c.read.ensures.onward c.read_list.ensures.onward in
    let three = onward_then c.args.input.now c.read_list.new.input c.read_optional.new.input two c.read_optional.ensures in
    let four = onward_then c.args.input.now c.read_optional.new.input c.read-2.new.input three c.read-2.ensures.onward in
    let five = onward_then c.args.input.now c.read-2.new.input c.read_optional-2.new.input four c.read_optional-2.ensures in
    let six = onward_then c.args.input.now c.read_optional-2.new.input c.read_optional-3.new.input five c.read_optional-3.ensures in
    let seven = onward_then c.args.input.now c.read_optional-3.new.input c.read-3.new.input six c.read-3.ensures.onward in
    onward_then c.args.input.now c.read-3.new.input c.read-4.new.input seven c.read-4.ensures.onward
