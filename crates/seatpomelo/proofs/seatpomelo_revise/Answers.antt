-- `seatpomelo::seatpomelo_revise` meets its contract. Assumes nothing.
use mathlib.Core.List.{[], ◌∷◌}
use lib.IntN.{pos}
use mir.Syntax.{w64}
use mir.Val.{SFits}
use mir.Facts.{to_z-of_z}
use borrow.Author.Rules.{rules}
use Rattle.seatpomelo.proofs.seatpomelo_revise.Goals as goal

pub returns-in-Ok-Within : goal.returns-in-Ok-Within
returns-in-Ok-Within c =
    let h : SFits w64 c.in-Ok-Within.outstanding = search rules in
    rw (to_z-of_z h) (rw c.in-Ok-Within.field-0-is at (c.in-Ok-Within.ensures (pos c.args.within.now ∷ c.args.amount.now ∷ [])))

pub returns-in-Ok-Assigned : goal.returns-in-Ok-Assigned
returns-in-Ok-Assigned c =
    let h : SFits w64 c.in-Ok-Assigned.outstanding = search rules in
    rw (to_z-of_z h) (rw c.in-Ok-Assigned.field-0-is at (c.in-Ok-Assigned.ensures (pos c.args.within.now ∷ c.args.amount.now ∷ [])))

pub returns-in-Err : goal.returns-in-Err
returns-in-Err c = rw c.status.ensures (c.in-Err.ensures (pos c.args.within.now ∷ c.args.amount.now ∷ []))
