-- `taken::test_state` meets its contract. Assumes nothing.
use mathlib.Core.Path.{refl}
use borrow.Author.Rules.{rules}
use Rattle.taken.proofs.Facts.{parts_sized, sum_kept, first_wholes}
use Rattle.taken.proofs.test_state.Goals as goal

pub returns-in_default : goal.returns-in_default
returns-in_default c = (c.in_default.ensures c.args.stage, refl)

pub returns : goal.returns
returns c =
    let a = c.args in
    let T = c.in-Some.ensures a.stage in
    let z = parts_sized a.stage (search rules) a.amounts.now.lengths in
    record {
      sized = z;
      is_taken = T.0;
      stage = refl;
      allotted = refl;
      measurement = refl;
      count = refl;
      users = refl;
      wholes = first_wholes _ a.count _ T.2;
      sum = sum_kept _ z T.0 T.1;
    }
