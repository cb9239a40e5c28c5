-- The cells of a balance, slot by slot. Assumes nothing. No exported contract leans on it.
use Rattle.std.specs.Prelude.{Bool, List, ℕ, ℤ}
use Rattle.numbers.specs.Sums.{table, atZ}
use Rattle.numbers.specs.Lists.{flat}
use Rattle.point_day.specs.Calls.{with_share}
use Rattle.allot.specs.UserWeights.{consumption_and_losses, by_all_kinds}
use Rattle.allot.specs.Shared.{shares_of}

-- the balance cells of n users with the shares zs
abbrev pub balances_of : Bool → List ℤ → List ℤ → List ℤ → ℕ → List ℤ
balances_of all cs ls zs n = flat (table (λ s. (with_share all (consumption_and_losses cs ls s) (atZ zs s)).balance) n)

-- the balance cells of n users, of the balance z
abbrev pub all_balances : ℤ → List ℤ → List ℤ → List ℕ → ℕ → List ℤ
all_balances z cs ls users n = balances_of (by_all_kinds cs ls n) cs ls (shares_of z cs ls users n) n
