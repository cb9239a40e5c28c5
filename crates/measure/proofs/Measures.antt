-- Measure: each outcome of the call. Assumes nothing.
use mathlib.Core.Path.{◌≡◌, refl, sym, ap, ◌∙◌}
use mathlib.Core.Bool.{true, false, not}
use mathlib.Core.List.{[], ◌∷◌}
use Prim.Native.Nat.{ℕ, suc}
use native.Mathlib.Omega.{arith}
use Rattle.numbers.specs.Lists.{both}
use Rattle.point_day.specs.Day.{emission_right, provisional}
use Rattle.point_day.specs.Calls.{refused, done, verdict, measure}
use Rattle.point_day.specs.Struct.{Sized, read, laid, taken, outcome, called}
use Rattle.point_day.specs.declared.PointDay.{PointDay}
use Rattle.point_day.proofs.Taken.{taken_facts}
use Rattle.point_day.proofs.Back.{laid_read}
use Rattle.point_day.proofs.Called.{called_refused, called_accepted, test_holds, test_passed, none_left}
use Rattle.point_day.specs.Fields.{set_measurement}
use Rattle.measure.specs.Measuring.{Measures, Tested}
use Rattle.point_day.specs.Day.{metered}

module _ (e w : ℕ) (d : PointDay) (z : Sized d) (ok : taken d ≡ true) where
  measure_after : set_measurement (metered e w) d ≡ laid (measure e w (read d)).after
  unfolding laid measure
  measure_after = ap (set_measurement (metered e w)) (sym (laid_read d z (taken_facts d ok)))

  measure_tests : verdict (measure e w (read d)).tests ≡ verdict (record { number = 1; holds = both d.allotted (not (provisional d.stage)) } ∷ record { number = 2; holds = not (emission_right e w) } ∷ [])
  unfolding measure read
  measure_tests = refl

  pub measure_1 : both d.allotted (not (provisional d.stage)) ≡ true → outcome (refused 1) d ≡ called (measure e w) d
  measure_1 h = called_refused (measure e w) d 1 ok (measure_tests ∙ test_holds 1 _ _ h)

  module _ (h : both d.allotted (not (provisional d.stage)) ≡ false) where
    pub measure_2 : emission_right e w ≡ false → outcome (refused 2) d ≡ called (measure e w) d
    measure_2 k = called_refused (measure e w) d 2 ok (measure_tests ∙ test_passed 1 _ _ h (test_holds 2 _ [] (ap not k)))

    pub measure_done : {r : PointDay} → emission_right e w ≡ true → r ≡ set_measurement (metered e w) d → outcome done r ≡ called (measure e w) d
    unfolding measure
    measure_done {r} k q =
        ap (λ (x : PointDay). outcome done x) (q ∙ measure_after)
        ∙ called_accepted (measure e w) d ok (measure_tests ∙ test_passed 1 _ _ h (test_passed 2 _ [] (ap not k) none_left))

-- ---- the code's tests

pub fails : (e w : ℕ) (d : PointDay) (r : ℕ) → outcome (refused (suc r)) d ≡ called (measure e w) d → Tested e w d (suc r)
fails e w d r o = record { passed = λ q. absurd (omega arith); failed = λ h. o }

pub passes : (e w : ℕ) (d : PointDay) → Measures e w d → Tested e w d 0
passes e w d m = record { passed = λ q. m; failed = λ h. absurd (h refl) }
