-- Document 01, first paragraph: nearest means "rounded to a whole number, halves up". Assumes nothing.
use Rattle.std.specs.Prelude.{◌≡◌, refl, ℕ, ◌+◌, ◌*◌, ◌/◌, ◌≤◌, ◌<◌}

-- the nearest of n / d: the whole part of n / d + 1/2
unfoldable pub nearest : ℕ → ℕ → ℕ
nearest n d = (2 * n + d) / (2 * d)

-- x is the nearest of n / d: x is at most half a unit above n / d, and less than half a unit below it
pub record IsNearest (n d x : ℕ) : Type 0 where
  pub above : 2 * (x * d) ≤ 2 * n + d
  pub below : 2 * n < 2 * (x * d) + d

third : nearest 10 3 ≡ 3
unfolding nearest
third = refl

half_up : nearest 375 2 ≡ 188
unfolding nearest
half_up = refl

below_half : nearest 149 100 ≡ 1
unfolding nearest
below_half = refl
