-- What `?` passes on is the refusal that came, with its number. Assumes nothing.
use mathlib.Core.Path.{◌≡◌, ap}
use native.Mathlib.Omega.{arith}
use Rattle.numbers.specs.declared.Refusal.TheVariants.{WrongStage, OutOfRange, NotJoined, AlreadyJoined, AllJoined, AboveLimit, Unmeasured, NoUser, NetTooLow, NoPair, NegativeWeight, AmountTooLarge, Malformed, ShortBuffer, NoBasis, WrongArrival}
use Rattle.std.specs.Prelude.{Result, Ok, Err}
use Rattle.std.specs.Result.{IsErrAnd}
use Rattle.numbers.specs.declared.Refusal.{Refusal}
use Rattle.numbers.specs.Refusals.{number_of, status_of}

pub refusal_passed : {A : Type 0} (r : Result A Refusal) (e : Refusal) → IsErrAnd r (λ y. y ≡ e) → r ≡ Err e
refusal_passed (Ok x) e h = absurd h
refusal_passed (Err y) e h = ap Err h

pub status_passed : {A : Type 0} (r : Result A Refusal) (e : Refusal) → IsErrAnd r (λ y. y ≡ e) → status_of r ≡ number_of e
status_passed (Ok x) e h = absurd h
status_passed (Err y) e h = ap number_of h

-- no refusal has the number 0
pub refused_not_0 : (r : Refusal) → number_of r ≡ 0 → ⊥
refused_not_0 WrongStage e = absurd (omega arith)
refused_not_0 OutOfRange e = absurd (omega arith)
refused_not_0 NotJoined e = absurd (omega arith)
refused_not_0 AlreadyJoined e = absurd (omega arith)
refused_not_0 AllJoined e = absurd (omega arith)
refused_not_0 AboveLimit e = absurd (omega arith)
refused_not_0 Unmeasured e = absurd (omega arith)
refused_not_0 NoUser e = absurd (omega arith)
refused_not_0 NetTooLow e = absurd (omega arith)
refused_not_0 NoPair e = absurd (omega arith)
refused_not_0 NegativeWeight e = absurd (omega arith)
refused_not_0 AmountTooLarge e = absurd (omega arith)
refused_not_0 Malformed e = absurd (omega arith)
refused_not_0 ShortBuffer e = absurd (omega arith)
refused_not_0 NoBasis e = absurd (omega arith)
refused_not_0 WrongArrival e = absurd (omega arith)
