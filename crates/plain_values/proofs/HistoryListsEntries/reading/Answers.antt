use mathlib.Core.Path.{◌≡◌, sym, ap, ◌∙◌}
use native.Mathlib.Omega.{arith}
use borrow.Author.Rules.{rules}
use Prim.Native.Nat.{◌<◌}
use lib.ListN.{length}
use Rattle.plain_values.proofs.Spelled.{as_many, at_its_place}
use Rattle.plain_values.proofs.HistoryListsEntries.reading.Goals as goal

pub bounds-self-i : goal.bounds-self-i
bounds-self-i c = let h = c.args.self.now in omega (arith, c.requires, as_many h.tags.now h.values.now)

pub offset_bounds-self-i : goal.offset_bounds-self-i
offset_bounds-self-i c =
    let h = c.args.self.now in
    let paired : length h.tags.now ≡ length h.values.now = search rules in
    let there : c.args.i < length h.values.now = omega (arith, c.requires, as_many h.tags.now h.values.now, paired) in
    search rules

pub bounds-self-i-2 : goal.bounds-self-i-2
bounds-self-i-2 c =
    let h = c.args.self.now in
    let paired : length h.tags.now ≡ length h.values.now = search rules in
    omega (arith, c.requires, as_many h.tags.now h.values.now, paired)

pub returns : goal.returns
returns c =
    let h = c.args.self.now in
    let there : c.args.i < length h.tags.now = omega (arith, c.requires, as_many h.tags.now h.values.now) in
    c.reading_in.ensures ∙ ap (λ e. e.reading) (sym (at_its_place h.tags.now h.values.now c.args.i there))
