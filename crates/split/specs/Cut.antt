-- A cut among the remainders, by which the code tells who is served. Assumes nothing. No exported contract leans on it.
use Rattle.std.specs.Prelude.{ℕ, ◌+◌}
use Rattle.numbers.specs.Sums.{bit}
use Rattle.proration.specs.Proration.{ahead}

-- s i, and one unit more if party i is served before the remainder x of key y
abbrev pub cut_at : (ℕ → ℕ) → (ℕ → ℕ) → (ℕ → ℕ) → ℕ → ℕ → ℕ → ℕ
cut_at s r k x y i = s i + bit (ahead (r i) (k i) x y)
