-- `estimates_from_bytes::telemetered` reads onward, one thing after the other. Assumes nothing.
use Rattle.console.proofs.Onward.{onward_then}
use Rattle.estimates_from_bytes.proofs.telemetered.Goals as goal

pub returns-in_err-count : goal.returns-in_err-count
returns-in_err-count c =
    let two = onward_then c.args.input.now c.read.new.input c.read_list.new.input c.read.ensures.onward c.read_list.ensures.onward in
    let three = onward_then c.args.input.now c.read_list.new.input c.read_optional.new.input two c.read_optional.ensures in
    let four = onward_then c.args.input.now c.read_optional.new.input c.read_own.new.input three c.read_own.ensures in
    let five = onward_then c.args.input.now c.read_own.new.input c.read_flows.new.input four c.read_flows.ensures in
    onward_then c.args.input.now c.read_flows.new.input c.read-2.new.input five c.read-2.ensures.onward

pub returns-in_err-history : goal.returns-in_err-history
returns-in_err-history c =
    let two = onward_then c.args.input.now c.read.new.input c.read_list.new.input c.read.ensures.onward c.read_list.ensures.onward in
    let three = onward_then c.args.input.now c.read_list.new.input c.read_optional.new.input two c.read_optional.ensures in
    let four = onward_then c.args.input.now c.read_optional.new.input c.read_own.new.input three c.read_own.ensures in
    let five = onward_then c.args.input.now c.read_own.new.input c.read_flows.new.input four c.read_flows.ensures in
    let six = onward_then c.args.input.now c.read_flows.new.input c.read-2.new.input five c.read-2.ensures.onward in
    onward_then c.args.input.now c.read-2.new.input c.read_history.new.input six c.read_history.ensures

pub returns : goal.returns
returns c =
    let two = onward_then c.args.input.now c.read.new.input c.read_list.new.input c.read.ensures.onward c.read_list.ensures.onward in
    let three = onward_then c.args.input.now c.read_list.new.input c.read_optional.new.input two c.read_optional.ensures in
    let four = onward_then c.args.input.now c.read_optional.new.input c.read_own.new.input three c.read_own.ensures in
    let five = onward_then c.args.input.now c.read_own.new.input c.read_flows.new.input four c.read_flows.ensures in
    let six = onward_then c.args.input.now c.read_flows.new.input c.read-2.new.input five c.read-2.ensures.onward in
    onward_then c.args.input.now c.read-2.new.input c.read_history.new.input six c.read_history.ensures
