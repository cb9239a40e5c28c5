-- Little-endian numbers byte by byte. Assumes nothing.
use mathlib.Core.Path.{◌≡◌, refl}
use mathlib.Core.List.{List}
use Prim.Native.Nat.{ℕ, suc, ◌+◌, ◌-◌, ◌*◌, ◌^◌, ◌≤◌, ◌<◌}
use native.Mathlib.Omega.{arith}
use native.Mathlib.Nat.{pow-suc, pow-le-pow_right}
use Rattle.numbers.specs.Sums.{at}
use Rattle.wire.specs.Bytes.{little_endian}

pub no_byte : (N : ℕ) (s : List ℕ) (i : ℕ) → (0 ≡ little_endian (N - N) s i) × (0 < 256 ^ (N - N))
unfolding little_endian
no_byte N s i = let e : N - N ≡ 0 = omega arith in rw e (refl, omega arith)

-- a number of N bytes, of which byte k - 1 is the next, from the highest down
module _ (N k : ℕ) (l : 0 < k) (h : k ≤ N) where
  first : N - (k - 1) ≡ suc (N - k)
  first = omega arith

  pub next_byte : (s : List ℕ) (i : ℕ) → little_endian (N - (k - 1)) s (i + (k - 1)) ≡ 256 * little_endian (N - k) s (i + k) + at s (i + (k - 1))
  unfolding little_endian
  next_byte s i = let e : suc (i + (k - 1)) ≡ i + k = omega arith in rw (first, e) (omega arith)

  pub next_power : 256 ^ (N - (k - 1)) ≡ 256 * 256 ^ (N - k)
  next_power = rw first (omega (arith, pow-suc 256 (N - k)))

  pub power_fits : N ≤ 8 → 256 ^ (N - (k - 1)) ≤ 18446744073709551616
  power_fits m = largest (pow-le-pow_right {n = 256} (omega arith) {i = N - (k - 1)} {j = 8} (omega arith))
    where
      largest : 256 ^ (N - (k - 1)) ≤ 256 ^ 8 → 256 ^ (N - (k - 1)) ≤ 18446744073709551616
      largest e = e
