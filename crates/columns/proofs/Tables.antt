-- Columns as tables, and tests of every amount of one. Assumes nothing.
use mathlib.Core.Path.{◌≡◌, sym, ◌∙◌}
use mathlib.Core.List.{List, map}
use Prim.Native.Nat.{◌<◌}
use native.Mathlib.Omega.{arith}
use lib.IntN.{ℤ, pos, nat_abs}
use lib.ListN.{length, length-map}
use lib.Seq.{ext_get_or}
use Rattle.numbers.specs.Sums.{table, atZ}
use Rattle.numbers.proofs.Sums.{length_table, getD_table}
use Rattle.point_day.proofs.Each.{map_at}

pub table_sizes : (zs : List ℤ) → table (λ k. nat_abs (atZ zs k)) (length zs) ≡ map nat_abs zs
table_sizes zs =
    ext_get_or 0 _ (map nat_abs zs) (length_table _ (length zs) ∙ sym (length-map zs nat_abs))
    (λ i l. let m : i < length zs = omega (arith, length_table (λ k. nat_abs (atZ zs k)) (length zs)) in getD_table _ (length zs) i 0 m ∙ sym (map_at nat_abs (pos 0) 0 zs i m))
