-- `wire::read` meets its contract: the bytes from the highest on, each below the ones before it. Assumes nothing.
use Prim.Native.Nat.{◌+◌, ◌-◌}
use native.Mathlib.Omega.{arith}
use Rattle.wire.proofs.Bytes.{no_byte, next_byte, next_power, power_fits}
use Rattle.wire.proofs.read.Goals as goal

pub loop-k-init : goal.loop-k-init
loop-k-init g c = no_byte g.row.N c.args.s.now (c.args.i + g.row.N)

pub overflow_mul-n : goal.overflow_mul-n
overflow_mul-n g c =
    let l = c.loop-k in
    omega (arith, next_power g.row.N l.k c.loop-k-test.true l.auto.k, power_fits g.row.N l.k c.loop-k-test.true l.auto.k c.requires.0, l.invariant.1)

pub overflow_add-n-in-loop-k : goal.overflow_add-n-in-loop-k
overflow_add-n-in-loop-k g c =
    let l = c.loop-k in
    omega (arith, next_power g.row.N l.k c.loop-k-test.true l.auto.k, power_fits g.row.N l.k c.loop-k-test.true l.auto.k c.requires.0, l.invariant.1, c.type_inv.s (c.args.i + (l.k - 1)))

pub loop-k-preserved : goal.loop-k-preserved
loop-k-preserved g c =
    let l = c.loop-k in (
      rw (next_byte g.row.N l.k c.loop-k-test.true l.auto.k c.args.s.now c.args.i, l.invariant.0),
      omega (arith, next_power g.row.N l.k c.loop-k-test.true l.auto.k, l.invariant.1, c.type_inv.s (c.args.i + (l.k - 1))),
    )
