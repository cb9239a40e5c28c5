use mathlib.Core.Path.{◌≡◌}
use Prim.Native.Nat.{◌+◌, ◌-◌, ◌^◌, ◌<◌}
use Rattle.wire.specs.Bytes.{little_endian}
use Rattle.wire.proofs.read.Given as goal

abbrev pub invariant-loop-k : goal.invariant-loop-k
invariant-loop-k g l = (l.n ≡ little_endian (g.row.N - l.k) l.s (l.i + l.k)) × (l.n < 256 ^ (g.row.N - l.k))
