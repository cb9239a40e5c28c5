-- Document 01, "Degree days": the coefficients C_temp1 and C_temp2, as exact fractions. Assumes nothing.
use Rattle.std.specs.Prelude.{Bool, List, ◌≡◌, refl, ℕ, ◌+◌, ◌*◌, ◌≤◌, leb, eqb, length, replicate}
use Rattle.numbers.specs.Nearest.{nearest}
use Rattle.numbers.specs.Sums.{pick, total}
use Rattle.numbers.specs.Lists.{both, every}
use Rattle.temperature.specs.declared.Fraction.{Fraction}

-- ---- exact fractions

abbrev pub ◌over◌ : ℕ → ℕ → Fraction
n over d = record { top = n; bottom = d }

infix 6 ◌over◌
-- f + k, for a whole number k
abbrev pub plus : Fraction → ℕ → Fraction
plus f k = f.top + k * f.bottom over f.bottom

-- f + g
abbrev pub sum : Fraction → Fraction → Fraction
sum f g = f.top * g.bottom + g.top * f.bottom over f.bottom * g.bottom

-- k × f
abbrev pub times : ℕ → Fraction → Fraction
times k f = k * f.top over f.bottom

-- f / k
abbrev pub divided : Fraction → ℕ → Fraction
divided f k = f.top over f.bottom * k

-- k / f
abbrev pub by : ℕ → Fraction → Fraction
by k f = k * f.bottom over f.top

-- "rounded once to nearest"
abbrev pub rounded : Fraction → ℕ
rounded f = nearest f.top f.bottom

-- ---- degree days

-- "degree days (0 to 2,600, like all)"
abbrev pub MOST_DEGREES : ℕ
MOST_DEGREES = 2600

abbrev pub is_degrees : ℕ → Bool
is_degrees g = leb g MOST_DEGREES

-- the days of a month
abbrev pub FEWEST_DAYS : ℕ
FEWEST_DAYS = 28

abbrev pub MOST_DAYS : ℕ
MOST_DAYS = 31

-- "the exact mean over the days"
unfoldable pub mean : List ℕ → Fraction
mean ds = total ds over length ds

-- what is added to the degree days on both sides, 4 degrees in fortieths
abbrev pub ADDED : ℕ
ADDED = 160

-- "(g + 160) / (mean + 160)"
unfoldable pub correction : ℕ → Fraction → Fraction
correction g m = by (g + ADDED) (plus m ADDED)

-- a month's mean
pub record MonthMean (m : Fraction) : Type 0 where
  pub top : m.top ≤ MOST_DAYS * MOST_DEGREES
  pub bottom : m.bottom ≤ MOST_DAYS

-- a mean of some days, no more than those of two winters
pub record Sound (m : Fraction) : Type 0 where
  pub top : m.top ≤ 2 * MOST_DAYS * MOST_DAYS * MOST_DEGREES
  pub some : 1 ≤ m.bottom
  pub bottom : m.bottom ≤ 2 * MOST_DAYS * MOST_DAYS

-- a correction by such a mean
pub record Corrects (c : Fraction) : Type 0 where
  pub top : c.top ≤ 2 * MOST_DAYS * MOST_DAYS * (MOST_DEGREES + ADDED)
  pub some : 1 ≤ c.bottom
  pub bottom : c.bottom ≤ 2 * MOST_DAYS * MOST_DAYS * (MOST_DEGREES + ADDED)

-- C_temp1: g are the gas day's degree days, ds those of the days of last year's month
abbrev pub C_temp1 : ℕ → List ℕ → Fraction
C_temp1 g ds = correction g (mean ds)

-- "the average of the month means of one or two winters"
unfoldable pub winters_mean : ℕ → List ℕ → List ℕ → Fraction
winters_mean k first second = pick (eqb k 1) (mean first) (divided (sum (mean first) (mean second)) 2)

-- C_temp2, of k winters
abbrev pub C_temp2 : ℕ → ℕ → List ℕ → List ℕ → Fraction
C_temp2 g k first second = correction g (winters_mean k first second)

-- "each 28 to 31 days": a winter's degree days
unfoldable pub winter_right : List ℕ → Bool
winter_right ds = both (both (leb FEWEST_DAYS (length ds)) (leb (length ds) MOST_DAYS)) (every is_degrees ds)

-- one or two winters; the second list is looked at if there are two
unfoldable pub winters_right : ℕ → List ℕ → List ℕ → Bool
winters_right k first second =
    pick (eqb k 1) (winter_right first) (both (eqb k 2) (both (winter_right first) (winter_right second)))

-- two winters count alike, though the second has more days: means of 0 and 1,000 average 500
two_winters : rounded (winters_mean 2 (replicate 28 0) (replicate 31 1000)) ≡ 500
unfolding winters_mean mean total nearest
two_winters = refl
