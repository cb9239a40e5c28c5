-- What a call on a point-day is, by its verdict. Assumes nothing.
use mathlib.Core.Path.{◌≡◌, refl}
use mathlib.Core.Bool.{Bool, true, false}
use mathlib.Core.List.{List, [], ◌∷◌}
use Prim.Native.Nat.{ℕ}
use Rattle.point_day.specs.Day.{Day}
use Rattle.point_day.specs.Calls.{refused, Move, Test, Verdict, refuse, accept, verdict}
use Rattle.point_day.specs.Struct.{read, laid, taken, outcome, called}
use Rattle.point_day.specs.declared.PointDay.{PointDay}

module _ (m : Day → Move) (d : PointDay) where
  pub called_untaken : taken d ≡ false → outcome (refused 2) d ≡ called m d
  unfolding called
  called_untaken e = rw e

  pub called_refused : (n : ℕ) → taken d ≡ true → verdict (m (read d)).tests ≡ refuse n → outcome (refused n) d ≡ called m d
  unfolding called
  called_refused n e v = rw (e, v)

  pub called_accepted : taken d ≡ true → verdict (m (read d)).tests ≡ accept → outcome (m (read d)).answer (laid (m (read d)).after) ≡ called m d
  unfolding called
  called_accepted e v = rw (e, v)

-- a test that holds refuses; one that does not is passed
pub test_holds : (n : ℕ) (b : Bool) (ts : List Test) → b ≡ true → verdict (record { number = n; holds = b } ∷ ts) ≡ refuse n
unfolding verdict
test_holds n b ts e = rw e

pub test_passed : (n : ℕ) (b : Bool) (ts : List Test) {v : Verdict} → b ≡ false → verdict ts ≡ v → verdict (record { number = n; holds = b } ∷ ts) ≡ v
unfolding verdict
test_passed n b ts e f = rw e f

pub none_left : verdict [] ≡ accept
unfolding verdict
none_left = refl
