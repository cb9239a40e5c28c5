use mathlib.Core.Path.{◌≡◌}
use Prim.Native.Nat.{ℕ, ◌<◌}
use lib.ListN.{get_or}
use Rattle.numbers.proofs.Bits.{Gathered}
use Rattle.taken.proofs.user_numbers.no_numbers.Given as goal

abbrev pub invariant-loop-user : goal.invariant-loop-user
invariant-loop-user l = Gathered 0 l.bits ((k : ℕ) → k < l.user-index → get_or l.users k 0 ≡ 0)
