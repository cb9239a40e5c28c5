use mathlib.Core.Path.{◌≡◌}
use mathlib.Core.List.{map}
use Prim.Native.Nat.{◌≤◌}
use lib.IntN.{pos}
use lib.ListN.{length}
use lib.Seq.{paste}
use Rattle.plain_day.specs.Layout.{USERS_AT}
use Rattle.plain_day.proofs.writes.put_users.Given as goal

abbrev pub invariant-loop-i : goal.invariant-loop-i
invariant-loop-i l = (l.i ≤ length l.users) × (l.day ≡ paste l.initial.day USERS_AT (map pos l.users) l.i)
