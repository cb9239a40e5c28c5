-- What the test of a point-day in plain numbers finds. Assumes nothing. No exported contract leans on it.
use Rattle.std.specs.Prelude.{Result, Ok, Err, true, false, List, ◌≡◌, ℤ}
use Rattle.numbers.specs.declared.Refusal.{Refusal}
use Rattle.numbers.specs.declared.Refusal.TheVariants.{OutOfRange}
use Rattle.taken.specs.Tested.{Known}
use Rattle.taken.specs.declared.State.{State}
use Rattle.plain_day.specs.Layout.{is_readable, day_in}
use Rattle.plain_day.specs.Lines.{is_taken}

-- a point-day is read from the numbers xs and is taken, and s is its test; or refusal 2, if none is
abbrev pub TestedNumbers : List ℤ → Result State Refusal → Type 0
TestedNumbers xs (Ok s) = (is_readable xs ≡ true) × Known (day_in xs) s
TestedNumbers xs (Err r) = (is_taken xs ≡ false) × (r ≡ OutOfRange)
