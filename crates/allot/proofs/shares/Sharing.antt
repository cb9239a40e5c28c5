-- The users' shares: how many there are, and what fits. Assumes nothing.
use mathlib.Core.Path.{◌≡◌, ap, ◌∙◌}
use mathlib.Core.Bool.{true}
use mathlib.Core.List.{List, ◌++◌}
use mathlib.Core.Logic.{⊎_elim}
use Prim.Native.Nat.{ℕ, ◌≤◌}
use native.Mathlib.Omega.{arith}
use lib.IntN.{ℤ, pos}
use lib.ListN.{length, take, drop, get_or-eq_default}
use Rattle.std.proofs.lemmas.List.{take_all}
use lib.Seq.{length-take-le}
use Rattle.numbers.specs.Sums.{atZ}
use Rattle.numbers.specs.Lists.{distinct}
use Rattle.numbers.specs.Amounts.{Within}
use Rattle.numbers.proofs.Sums.{lt_or_ge, length_table}
use Rattle.numbers.proofs.Lists.{distinct_is}
use Rattle.proration.specs.Proration.{prorateZ}
use Rattle.proration.proofs.Signs.{lengthZ}
use Rattle.proration.proofs.Fairness.{share_size}
use Rattle.point_day.specs.Limits.{LIMIT}
use Rattle.allot.specs.UserWeights.{basis_weights}
use Rattle.allot.specs.Shared.{shares_of}

-- ---- the users' shares

module _ (z : ℤ) (cs ls : List ℤ) (users : List ℕ) (n : ℕ) where
  pub shares_long : length (shares_of z cs ls users n) ≡ n
  shares_long = lengthZ z (basis_weights cs ls n) (take n users) ∙ length_table _ n

  -- of the first n users, handed in as a list of their own
  pub first_shares : n ≤ length users → (o₀ : List ℤ)
      → shares_of z cs ls (take n users) (length (take n users)) ++ drop (length (take n users)) o₀ ≡ shares_of z cs ls users n ++ drop n o₀
  first_shares l o₀ =
      ap (λ k. shares_of z cs ls (take n users) k ++ drop k o₀) (length-take-le n users l)
      ∙ ap (λ us. prorateZ z (basis_weights cs ls n) us ++ drop n o₀) (take_all n (take n users) (omega (arith, length-take-le n users l)))

  module _ (within : Within LIMIT z) (apart : distinct (take n users) ≡ true) (l : n ≤ length users) where
    pub shares_within : (s : ℕ) → Within LIMIT (atZ (shares_of z cs ls users n) s)
    shares_within s = record {
      size =
          ⊎_elim
          (λ m. omega (
            arith,
            within.size,
            share_size z (basis_weights cs ls n) (take n users) s (omega (arith, long)) (distinct_is (take n users) apart) (omega (arith, long, length-take-le n users l)),
          ))
          (λ m. rw (get_or-eq_default (shares_of z cs ls users n) (pos 0) {n = s} (omega (arith, shares_long))) (omega arith))
          (lt_or_ge s n);
    }
      where
        long : length (basis_weights cs ls n) ≡ n
        long = length_table _ n
