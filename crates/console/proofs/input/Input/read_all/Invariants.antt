use Prim.Native.Nat.{◌*◌, ◌≤◌}
use lib.ListN.{drop, length}
use mathlib.Core.Path.{◌≡◌}
use Rattle.numbers.proofs.Filled.{Filled}
use Rattle.console.proofs.input.Input.read_all.Given as goal

abbrev pub invariant-loop-x : goal.invariant-loop-x
invariant-loop-x g l =
    record { filled : Filled (λ i. g.T.Number.spelled (drop (g.T.Number.size * i) l.initial.self)) l.initial.x-items l.x-index l.x-items; rest : l.self ≡ drop (g.T.Number.size * l.x-index) l.initial.self; there : g.T.Number.size * l.x-index ≤ length l.initial.self }
