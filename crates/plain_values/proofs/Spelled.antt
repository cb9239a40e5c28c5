-- The entries that tags and values spell: as many as tags, each at its place. Assumes nothing.
use mathlib.Core.Path.{◌≡◌}
use mathlib.Core.List.{List}
use Prim.Native.Nat.{ℕ, ◌<◌}
use lib.ListN.{length}
use Rattle.numbers.proofs.Sums.{length_table, getD_table}
use Rattle.history.specs.Search.{entry_at}
use Rattle.plain_values.specs.Lists.{entry_in, entries_in}

pub as_many : (tags values : List ℕ) → length (entries_in tags values) ≡ length tags
unfolding entries_in
as_many tags values = length_table (entry_in tags values) (length tags)

pub at_its_place : (tags values : List ℕ) (i : ℕ) → i < length tags → entry_at (entries_in tags values) i ≡ entry_in tags values i
unfolding entries_in
at_its_place tags values i l = getD_table (entry_in tags values) (length tags) i _ l
