-- Numbers in bytes, little-endian. Assumes nothing.
use Rattle.std.specs.Prelude.{List, [], ◌∷◌, ◌≡◌, refl, ℕ, zero, suc, ◌+◌, ◌-◌, ◌*◌, ltb, ℤ, pos, negsuc}
use Rattle.numbers.specs.Sums.{pick, at}

-- the number of n bytes from place i on, the lowest byte first
unfoldable pub little_endian : ℕ → List ℕ → ℕ → ℕ
little_endian zero s i = 0
little_endian (suc n) s i = at s i + 256 * little_endian n s (suc i)

-- the signed number of 64 bits: n itself below 2^63, else n − 2^64, which is −(2^64 − 1 − n) − 1
abbrev pub signed_64 : ℕ → ℤ
signed_64 n = pick (ltb n 9223372036854775808) (pos n) (negsuc (18446744073709551615 - n))

four : little_endian 4 (9 ∷ 1 ∷ 2 ∷ 3 ∷ 4 ∷ []) 1 ≡ 67305985
unfolding little_endian
four = refl
