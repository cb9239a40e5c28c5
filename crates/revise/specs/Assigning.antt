-- R assigned, on columns of users. Assumes nothing. No exported contract leans on it.
use Rattle.std.specs.Prelude.{Result, Ok, Err, Bool, true, false, ◌≡◌, ℕ, ◌≤◌, ◌<◌, ℤ, pos, nat_abs, ◌+ℤ◌, length, take}
use mathlib.Core.List.{List, map, zip_with}
use Rattle.numbers.specs.Sums.{atZ, total}
use Rattle.numbers.specs.Lists.{distinct}
use Rattle.numbers.specs.Amounts.{Within}
use Rattle.numbers.specs.declared.Refusal.{Refusal}
use Rattle.numbers.specs.declared.Refusal.TheVariants.{AmountTooLarge}
use Rattle.point_day.specs.Limits.{USERS, LIMIT, AMOUNT}
use Rattle.point_day.specs.Struct.{padded}
use Rattle.taken.specs.Tested.{any_large}
use Rattle.revise.specs.Revisions.{shares}

-- users us, all revisions rs, and a column ws that starts with the users' whole amounts, in their ranges; W is the sum of their sizes
pub record Assignable (R : ℤ) (W : ℕ) (us : List ℕ) (rs ws : List ℤ) : Type 0 where
  pub amount : Within LIMIT R
  pub sum : W ≡ total (map nat_abs (take (length us) ws))
  pub some : 0 < length us
  pub few : length us ≤ USERS
  pub apart : distinct us ≡ true
  pub revisions_long : length rs ≡ USERS
  pub column_long : length ws ≡ USERS
  pub revisions : (i : ℕ) → Within AMOUNT (atZ rs i)
  pub wholes : (i : ℕ) → Within AMOUNT (atZ (take (length us) ws) i)

-- the users' shares of R
abbrev pub shared : ℤ → List ℕ → List ℤ → List ℤ
shared R us ws = shares R us (take (length us) ws)

-- whether a whole amount is too large with the shares
abbrev pub large : ℤ → List ℕ → List ℤ → Bool
large R us ws = any_large (zip_with ◌+ℤ◌ (take (length us) ws) (shared R us ws))

-- R is assigned unless a whole amount would be too large; the column then has the revisions with the shares added
abbrev pub Assigned : ℤ → List ℕ → List ℤ → List ℤ → {A : Type 0} → Result A Refusal → List ℤ → Type 0
Assigned R us rs ws (Ok _) after = (large R us ws ≡ false) × (after ≡ zip_with ◌+ℤ◌ rs (padded USERS (pos 0) (shared R us ws)))
Assigned R us rs ws (Err r) after = (large R us ws ≡ true) × (r ≡ AmountTooLarge)
