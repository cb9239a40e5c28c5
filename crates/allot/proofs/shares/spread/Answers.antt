-- `allot::shares::spread` meets its contract: by the kinds' weights, or all to kind 1. Assumes nothing.
use mathlib.Core.Path.{refl}
use Rattle.numbers.specs.Sums.{total}
use Rattle.proration.specs.Proration.{LARGEST_WEIGHT}
use Rattle.allot.proofs.weights.Weighing.{bounded_five}
use native.Mathlib.Omega.{arith}
use Rattle.allot.proofs.shares.spread.Goals as goal

pub invariant_of-to_first : goal.invariant_of-to_first
invariant_of-to_first c =
    record { summed = unfold total in refl; bounded = bounded_five LARGEST_WEIGHT _ _ _ _ _ (omega arith) (omega arith) (omega arith) (omega arith) (omega arith) }
