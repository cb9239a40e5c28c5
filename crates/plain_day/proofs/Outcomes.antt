-- What a call on plain numbers gives back, by what it does to the point-day that they stand for. Assumes nothing.
use mathlib.Core.Path.{◌≡◌, refl}
use mathlib.Core.Bool.{Bool, true, false}
use mathlib.Core.List.{List}
use Prim.Native.Nat.{ℕ}
use lib.IntN.{ℤ}
use Rattle.point_day.specs.Answers.{Answer, refused}
use Rattle.numbers.specs.Sums.{pick}
use Rattle.numbers.specs.Lists.{both}
use Rattle.std.specs.Prelude.{Result, Ok, Err}
use Rattle.numbers.specs.Refusals.{number_of}
use Rattle.numbers.specs.declared.Refusal.{Refusal}
use Rattle.point_day.specs.Calls.{Move}
use Rattle.point_day.specs.Day.{Day}
use Rattle.point_day.specs.Struct.{Outcome, taken, outcome, called}
use Rattle.point_day.specs.declared.PointDay.{PointDay}
use Rattle.point_day.proofs.Called.{called_untaken}
use Rattle.taken.specs.Tested.{StateOf}
use Rattle.taken.specs.declared.State.{State}
use Rattle.plain_day.specs.Layout.{is_readable, day_in}
use Rattle.plain_day.specs.Lines.{is_taken}
use Rattle.plain_day.specs.Tested.{TestedNumbers}
use Rattle.plain_day.specs.Plain.{plain, given, plain_call}

module _ (call : PointDay → Outcome) (vs xs : List ℤ) where
  -- no point-day that is taken
  pub no_day : is_taken xs ≡ false → ((d : PointDay) → taken d ≡ false → outcome (refused 2) d ≡ call d) → plain 2 vs xs ≡ plain_call call vs xs
  unfolding plain_call
  no_day e u = go (is_readable xs) refl e
    where
      go : (b : Bool) → is_readable xs ≡ b → both b (taken (day_in xs)) ≡ false → plain 2 vs xs ≡ pick b (given (call (day_in xs)).answer (call (day_in xs)).day vs xs) (plain 2 vs xs)
      go true r t = rw (← u (day_in xs) t)
      go false r t = refl

  pub gives : is_readable xs ≡ true → (a : Answer) (d : PointDay) → outcome a d ≡ call (day_in xs) → given a d vs xs ≡ plain_call call vs xs
  unfolding plain_call
  gives e a d o = rw (e, ← o)

  pub refuses : is_readable xs ≡ true → (n : ℕ) → outcome (refused n) (day_in xs) ≡ call (day_in xs) → plain n vs xs ≡ plain_call call vs xs
  refuses e n o = gives e (refused n) (day_in xs) o

-- ---- the test

-- no point-day is read
pub none_read : (xs : List ℤ) → is_readable xs ≡ false → is_taken xs ≡ false
none_read xs e = rw e

-- one is read, of which r is the test
pub one_read : (xs : List ℤ) (r : Result State Refusal) → is_readable xs ≡ true → StateOf (day_in xs) r → TestedNumbers xs r
one_read xs (Ok s) e k = (e, k)
one_read xs (Err r) e k = (rw e k.0, k.1)

-- the one that is read is taken
pub known_taken : (xs : List ℤ) {s : State} → TestedNumbers xs (Ok s) → is_taken xs ≡ true
known_taken xs t = rw t.0 t.1.is_taken

-- a call on numbers of which none is read that is taken
pub untaken : (move : Day → Move) (vs xs : List ℤ) {r : Refusal} → TestedNumbers xs (Err r) → plain (number_of r) vs xs ≡ plain_call (called move) vs xs
untaken move vs xs t = rw t.1 (no_day (called move) vs xs t.0 (λ d n. called_untaken move d n))
