-- `split::split` meets its contract. Assumes nothing.
use Rattle.std.proofs.Common.{rules, length, ap, arith, to_z-of_z}
use borrow.Author.Tests.{tests}
use Rattle.split.proofs.Call.{ranged, refused, too_short, done}
use Rattle.split.proofs.split.Goals as goal

pub returns-then-not-in_range : goal.returns-then-not-in_range
returns-then-not-in_range c =
    let both = refused c.args.amount c.args.ws.now c.args.keys.now c.args.out.now (search (rules, tests)) in
    record { value = both.0; out_after = both.1 }

pub returns-then-out-ws : goal.returns-then-out-ws
returns-then-out-ws c =
    let both = too_short c.args.amount c.args.ws.now c.args.keys.now c.args.out.now (search (rules, tests)) c.if-out-ws.true in
    record { value = both.0; out_after = both.1 }

pub of-requires : goal.of-requires
of-requires c =
    let r = ranged c.args.amount c.args.ws.now c.args.keys.now (search (rules, tests)) in
    (r.few, r.weights)

pub prorate_signed-requires : goal.prorate_signed-requires
prorate_signed-requires c =
    let r = ranged c.args.amount c.args.ws.now c.args.keys.now (search (rules, tests)) in
    let long = ap length c.of.ensures in
    record { within = (rw (to_z-of_z c.ranges.amount) r.amount, omega (arith, long, r.some), omega (arith, long, r.few)); ws_in_bounds = (omega (arith, long, r.keyed), omega (arith, long, c.if-out-ws.false)) }

pub returns : goal.returns
returns c =
    let both = done c.args.amount c.args.ws.now c.args.keys.now c.args.out.now (search (rules, tests)) c.if-out-ws.false (rw (to_z-of_z c.ranges.amount, c.of.ensures) at c.prorate_signed.ensures) in
    record { value = both.0; out_after = both.1 }
