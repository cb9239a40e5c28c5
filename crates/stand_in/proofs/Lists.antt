-- Stand-in with rows in three lists: each outcome of the call. Assumes nothing.
use mathlib.Core.Path.{◌≡◌, sym, ap, ◌∙◌}
use mathlib.Core.Bool.{Bool, true, false, not}
use mathlib.Core.List.{List}
use Prim.Native.Nat.{ℕ, ◌*◌, ◌≤◌, ◌<◌}
use lib.Dec.{leb, eqb}
use lib.IntN.{ℤ, pos}
use lib.ListN.{length}
use borrow.Author.Tests.{eqb-true}
use Rattle.numbers.specs.Lists.{both, every}
use Rattle.numbers.proofs.Lists.{both_snd}
use Rattle.point_day.specs.Limits.{USERS, LIMIT, ROWS}
use Rattle.point_day.specs.Day.{is_measured, net_of, provisional}
use Rattle.point_day.specs.Calls.{refused, row_right, stand_in}
use Rattle.point_day.specs.Struct.{Sized, taken, row_at, rows_of, Outcome, outcome, called}
use Rattle.point_day.specs.declared.PointDay.{PointDay}
use Rattle.taken.specs.Tested.{Known}
use Rattle.taken.specs.declared.State.{State}
use Rattle.stand_in.specs.Rows.{rows, rows_readable, rows_in, Nearest}
use Rattle.stand_in.proofs.rows.Rows.{none_filled, rows_lengths, rows_held, right_readable}
use Rattle.stand_in.specs.Openings.{Usable, RowTested, row_users}
use Rattle.stand_in.proofs.opening.Standing.{stand_in_10, stand_in_row, stand_in_done, count_few, named_users, named_few}
use Rattle.stand_in.specs.StandsIn.{StandsIn}

-- the test of the rows, on lists that hold rows
pub right_in : (cs us : List ℕ) (zs : List ℤ) → rows_readable cs us zs ≡ true → {b : Bool} → b ≡ every row_right (rows_of (rows cs us zs)) → every row_right (rows_of (rows_in cs us zs)) ≡ b
right_in cs us zs e h = sym (h ∙ ap (λ rs. every row_right (rows_of rs)) (rows_held cs us zs e))

module _ (cs us : List ℕ) (zs : List ℤ) (right : every row_right (rows_of (rows_in cs us zs)) ≡ true) where
  pub lengths : (length cs ≡ ROWS) × (length us ≡ USERS * ROWS) × (length zs ≡ USERS * ROWS)
  lengths = rows_lengths cs us zs (right_readable cs us zs right)

  held : rows cs us zs ≡ rows_in cs us zs
  held = rows_held cs us zs (right_readable cs us zs right)

  right_rows : every row_right (rows_of (rows cs us zs)) ≡ true
  right_rows = ap (λ rs. every row_right (rows_of rs)) held ∙ right

  pub usable : (n r : ℕ) → n ≤ LIMIT → Nearest cs r → r < ROWS → Usable (rows cs us zs) n r
  usable n r l near found = record { right = right_rows; nearest = near; found = found; net = l }

  module _ (tolerance : ℕ) (d : PointDay) (z : Sized d) (ok : taken d ≡ true) (open_day : both (provisional d.stage) (both (not d.allotted) (eqb d.count 0)) ≡ true) (measured : is_measured d.measurement ≡ true) (n : ℕ) (net : pos n ≡ net_of d.measurement) (beyond : leb n tolerance ≡ false) (r : ℕ) where
    settled : {o : Outcome} → o ≡ called (stand_in tolerance (rows_of (rows cs us zs))) d → o ≡ called (stand_in tolerance (rows_of (rows_in cs us zs))) d
    settled e = e ∙ ap (λ rs. called (stand_in tolerance (rows_of rs)) d) held

    pub no_row : Nearest cs r → r ≡ ROWS → outcome (refused 10) d ≡ called (stand_in tolerance (rows_of (rows_in cs us zs))) d
    no_row near e = settled (stand_in_10 d z ok (rows cs us zs) tolerance open_day right_rows measured n net beyond (none_filled (rows cs us zs) r near e))

    module _ (u : Usable (rows cs us zs) n r) (k : ℕ) (column : List ℤ) (t : RowTested (pos n) (row_at (rows cs us zs) r) k column) where
      pub row_refused : (k ≡ 0 → ⊥) → outcome (refused k) d ≡ called (stand_in tolerance (rows_of (rows_in cs us zs))) d
      row_refused h = settled (stand_in_row d z ok (rows cs us zs) tolerance open_day right_rows measured n net beyond r u k (t.failed h))

      pub row_stands : k ≡ 0 → StandsIn tolerance cs us zs d r column
      row_stands h =
          let rs = rows cs us zs in
          let few = count_few rs n r u lengths.1 lengths.2 in
          let named = named_users rs n r u lengths.1 lengths.2 in
          let q = stand_in_done d z ok rs tolerance open_day right_rows measured n net beyond r u (t.passed h) (row_users cs us r) named (named_few rs n r u lengths.1 lengths.2) in
          record {
            is = settled (rw (t.shares h) q);
            taken = ok;
            nobody = eqb-true d.count 0 (both_snd (not d.allotted) _ (both_snd (provisional d.stage) _ open_day));
            row = record { found = u.found; few = few; counts_long = lengths.0; users_long = lengths.1 };
          }

-- ---- the tests' words of the state, on the point-day itself

module _ {d : PointDay} {s : State} (k : Known d s) where
  pub open_is : both (provisional d.stage) (both (not d.allotted) (eqb d.count 0)) ≡ both (provisional s.stage) (both (not s.allotted) (eqb s.count 0))
  open_is = rw (k.stage, k.allotted, k.count)

  pub measured_is : is_measured d.measurement ≡ is_measured s.measurement
  measured_is = ap is_measured k.measurement

  pub net_is : net_of s.measurement ≡ net_of d.measurement
  net_is = sym (ap net_of k.measurement)
