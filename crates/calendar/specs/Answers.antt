-- Document 01, "Refusals": what a call answers. Assumes nothing.
use Rattle.std.specs.Prelude.{List, ℕ, Result, Ok, Err}
pub use Rattle.numbers.specs.Refusals.{Test, ◌when◌, Verdict, refuse, accept}
unfoldable pub use Rattle.numbers.specs.Refusals.{verdict}
use Rattle.numbers.specs.Refusals.{number_of}
use Rattle.numbers.specs.declared.Refusal.{Refusal}

-- the number of a refusal, or what the call gives
pub data Answer (A : Type 0) : Type 0 where
  refused : ℕ → Answer A
  given : A → Answer A

-- a refusal, or the answer of an accepted call
abbrev pub answered : {A : Type 0} → Verdict → Answer A → Answer A
answered (refuse n) a = refused n
answered accept a = a

-- the first test that holds refuses the call
unfoldable pub tested : {A : Type 0} → List Test → Answer A → Answer A
unfolding verdict
tested ts a = answered (verdict ts) a

-- what the code's answer stands for
abbrev pub answer_of : {A : Type 0} → Result A Refusal → Answer A
answer_of (Ok a) = given a
answer_of (Err r) = refused (number_of r)
