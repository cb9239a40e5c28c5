-- The users' shares of a balance, from the cells, slot by slot. Assumes nothing. No exported contract leans on it.
use Rattle.std.specs.Prelude.{List, ℕ, ℤ, take}
use Rattle.proration.specs.Proration.{prorateZ}
use Rattle.allot.specs.UserWeights.{basis_weights}

-- the shares of n users
abbrev pub shares_of : ℤ → List ℤ → List ℤ → List ℕ → ℕ → List ℤ
shares_of z cs ls users n = prorateZ z (basis_weights cs ls n) (take n users)
