-- Laws of the nearest whole number. Assumes nothing.
use mathlib.Core.Path.{◌≡◌, sym, ap, ◌∙◌}
use Prim.Native.Nat.{ℕ, ◌+◌, ◌-◌, ◌*◌, ◌/◌, ◌%◌, ◌≤◌, ◌<◌}
use native.Mathlib.Omega.{arith}
use native.Mathlib.Nat.{div-add-mod, mod-lt, mul_comm, mul_assoc, add-mul, lt_of_mul-lt-mul_left}
use Rattle.numbers.specs.Nearest.{nearest, IsNearest}

-- 2 * d * x, in the order of the law
twice : (d x : ℕ) → (2 * d) * x ≡ 2 * (x * d)
twice d x = mul_assoc 2 d x ∙ ap (λ t. 2 * t) (mul_comm d x)

module _ (n d : ℕ) (some : 0 < d) where
  pub nearest_is : IsNearest n d (nearest n d)
  unfolding nearest
  nearest_is =
      let x = (2 * n + d) / (2 * d) in
      let e = div-add-mod (2 * n + d) (2 * d) in
      let l = mod-lt (2 * n + d) {m = 2 * d} (omega arith) in
      record { above = omega (arith, e, twice d x); below = omega (arith, e, l, twice d x) }

  -- only one number is nearest
  pub nearest_only : {x : ℕ} → IsNearest n d x → x ≡ nearest n d
  nearest_only {x} h =
      let y = nearest n d in
      let k = nearest_is in
      let a : x < y + 1 = lt_of_mul-lt-mul_left (2 * d) {m = x} {n = y + 1} (omega (arith, h.above, k.below, twice d x, twice d (y + 1), add-mul y 1 d)) in
      let b : y < x + 1 = lt_of_mul-lt-mul_left (2 * d) {m = y} {n = x + 1} (omega (arith, k.above, h.below, twice d y, twice d (x + 1), add-mul x 1 d)) in
      omega arith

  -- the half goes up
  pub half_up : (x : ℕ) → 2 * n ≡ 2 * (x * d) + d → nearest n d ≡ x + 1
  half_up x e = sym (nearest_only (record { above = omega (arith, add-mul x 1 d); below = omega (arith, add-mul x 1 d) }))

  -- by quotient and remainder
  pub nearest_low : n % d < d - n % d → n / d ≡ nearest n d
  nearest_low l =
      nearest_only (record { above = omega (arith, div-add-mod n d, mul_comm d (n / d)); below = omega (arith, div-add-mod n d, mul_comm d (n / d), mod-lt n some) })

  pub nearest_high : d - n % d ≤ n % d → n / d + 1 ≡ nearest n d
  nearest_high l =
      let e = add-mul (n / d) 1 d in
      nearest_only (record { above = omega (arith, div-add-mod n d, mul_comm d (n / d), e, mod-lt n some); below = omega (arith, div-add-mod n d, mul_comm d (n / d), e, mod-lt n some) })

  -- no more than m if n / d is no more
  pub nearest_le : (m : ℕ) → n ≤ m * d → nearest n d ≤ m
  nearest_le m h =
      let y = nearest n d in
      let b : y < m + 1 = lt_of_mul-lt-mul_left (2 * d) {m = y} {n = m + 1} (omega (arith, nearest_is.above, twice d y, twice d (m + 1), add-mul m 1 d)) in
      omega arith
