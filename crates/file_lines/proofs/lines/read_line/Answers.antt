-- `file_lines::lines::read_line` meets its contract: a number of one byte is that byte. Assumes nothing.
use Rattle.std.proofs.Common.{◌≡◌, List, ℕ, arith}
use Rattle.numbers.specs.Sums.{at}
use Rattle.wire.specs.Bytes.{little_endian}
use Rattle.file_lines.proofs.lines.read_line.Goals as goal

one_byte : (s : List ℕ) (i : ℕ) → at s i ≡ little_endian 1 s i
unfolding little_endian
one_byte s i = omega arith

pub returns : goal.returns
returns c =
    let a = c.args in
    λ j. record { user = a.user; kind = one_byte a.file.now a.at j; consumption = c.read.ensures.0 j; coefficient = c.read-2.ensures.0 j }
