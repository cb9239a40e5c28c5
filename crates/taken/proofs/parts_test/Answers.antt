-- `taken::parts_test` meets its contract. Assumes nothing.
use mathlib.Core.Path.{◌≡◌, refl}
use lib.ListN.{length}
use borrow.Author.Rules.{rules}
use Rattle.point_day.specs.Limits.{USERS}
use Rattle.point_day.specs.Struct.{Sized}
use Rattle.point_day.specs.Fields.{point_day}
use Rattle.taken.proofs.Facts.{parts_sized}
use Rattle.taken.proofs.Parts.{head_of, taken_allotted, allotted_of, bare_whole_at, taken_entering, entering_of, parts_none, parts_found}
use Rattle.taken.proofs.parts_test.Goals as goal

pub returns-then-not-head_right : goal.returns-then-not-head_right
returns-then-not-head_right c stage =
    let a = c.args in
    let m = a.amounts.now in
    let d = point_day stage a.allotted a.measurement a.n a.users.now m.consumption.now m.losses.now m.balance.now m.revision.now in
    let u : length a.users.now ≡ USERS = search rules in
    let z : Sized d = parts_sized stage u m.lengths in
    parts_none d z (λ F. c.head_right.ensures.no (search rules) (head_of d z F))

pub returns-then-allotted : goal.returns-then-allotted
returns-then-allotted c stage =
    let a = c.args in
    let m = a.amounts.now in
    let d = point_day stage a.allotted a.measurement a.n a.users.now m.consumption.now m.losses.now m.balance.now m.revision.now in
    let u : length a.users.now ≡ USERS = search rules in
    let z : Sized d = parts_sized stage u m.lengths in
    let h = c.head_right.ensures.yes (search rules) in
    let e = c.if-allotted.true in
    parts_found d z _ _ _ c.allotted_test.ensures (taken_allotted d z e h) (allotted_of d z e) (λ p s l. refl)

pub returns : goal.returns
returns c stage =
    let a = c.args in
    let m = a.amounts.now in
    let d = point_day stage a.allotted a.measurement a.n a.users.now m.consumption.now m.losses.now m.balance.now m.revision.now in
    let u : length a.users.now ≡ USERS = search rules in
    let z : Sized d = parts_sized stage u m.lengths in
    let h = c.head_right.ensures.yes (search rules) in
    let e = c.if-allotted.false in
    parts_found d z _ _ _ c.entering_test.ensures (taken_entering d z e h) (entering_of d z e) (λ p s l. bare_whole_at d z h.few p.balance p.revision s l)
