-- How large an amount may be so that sums of a million fit into 64 bits. Assumes nothing. No exported contract leans on it.
use Rattle.std.specs.Prelude.{ℕ}

abbrev pub SUMMABLE : ℕ
SUMMABLE = 1000000000000
