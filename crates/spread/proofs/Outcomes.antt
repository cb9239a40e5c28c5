-- The outcomes of a spread, each from what its tests showed. Assumes nothing.
use mathlib.Core.Path.{◌≡◌, sym, ap}
use mathlib.Core.Bool.{true, false, not}
use mathlib.Core.List.{List, ◌++◌}
use Prim.Native.Nat.{ℕ, ◌≤◌, ◌<◌}
use lib.IntN.{ℤ}
use lib.ListN.{length, drop}
use borrow.Author.Tests.{lt-ltb, le-ltb}
use Rattle.point_day.specs.Calls.{Verdict, refuse, accept, verdict, negative}
use Rattle.point_day.proofs.Called.{test_holds, test_passed, none_left}
use Rattle.spread.specs.Period.{in_range, parts}
use Rattle.spread.specs.Spread.{tests, outcome, by, spread}

module _ (reading : ℕ) (ws buffer : List ℤ) where
  by_verdict : {v : Verdict} → verdict (tests reading ws buffer) ≡ v → by v reading ws buffer ≡ spread reading ws buffer
  unfolding spread
  by_verdict e = sym (ap (λ v. by v reading ws buffer) e)

  pub out_of_range : in_range reading ws ≡ false → outcome (refuse 2) buffer ≡ spread reading ws buffer
  unfolding tests
  out_of_range e = by_verdict (test_holds 2 _ _ (ap not e))

  pub below_zero : in_range reading ws ≡ true → negative ws ≡ true → outcome (refuse 11) buffer ≡ spread reading ws buffer
  unfolding tests
  below_zero e f = by_verdict (test_passed 2 _ _ (ap not e) (test_holds 11 _ _ f))

  pub short : in_range reading ws ≡ true → negative ws ≡ false → length buffer < length ws → outcome (refuse 14) buffer ≡ spread reading ws buffer
  unfolding tests
  short e f l =
      by_verdict (test_passed 2 _ _ (ap not e) (test_passed 11 _ _ f (test_holds 14 _ _ (lt-ltb (length buffer) (length ws) l))))

  pub accepted : in_range reading ws ≡ true → negative ws ≡ false → length ws ≤ length buffer
      → outcome accept (parts reading ws ++ drop (length ws) buffer) ≡ spread reading ws buffer
  unfolding tests
  accepted e f l =
      by_verdict (test_passed 2 _ _ (ap not e) (test_passed 11 _ _ f (test_passed 14 _ _ (le-ltb (length buffer) (length ws) l) none_left)))
