-- `inventory::row::UserKind::write` meets its contract. Assumes nothing.
use mathlib.Core.Path.{◌≡◌, refl, sym, ap, ap₂, ◌∙◌}
use mathlib.Core.List.{◌++◌}
use Prim.Native.Nat.{◌+◌, ◌-◌}
use native.Mathlib.Omega.{arith}
use lib.ListN.{take, drop, take-append-drop}
use lib.Seq.{drop-drop}
use mir.Syntax.{w64}
use mir.Val.{SFits}
use mir.Facts.{to_z-of_z}
use borrow.Author.Rules.{rules}
use Rattle.inventory.specs.Row.{ROW}
use Rattle.inventory.proofs.row.UserKind.write.Goals as goal

pub returns-then-not-is_row : goal.returns-then-not-is_row
returns-then-not-is_row c =
    let s = c.args.self in
    let hc : SFits w64 s.consumption = search rules in
    let hl : SFits w64 s.losses = search rules in
    let hb : SFits w64 s.balance = search rules in
    rw (← (rw (to_z-of_z hc, to_z-of_z hl, to_z-of_z hb) at c.if-not-is_row.ensures))
    (record { next_is = omega arith; buffer = sym (take-append-drop c.args.place c.args.out.now) })

pub returns : goal.returns
returns c =
    let s = c.args.self in
    let out = c.args.out.now in
    let hc : SFits w64 s.consumption = search rules in
    let hl : SFits w64 s.losses = search rules in
    let hb : SFits w64 s.balance = search rules in
    let e : c.args.place + (c.args.place + ROW - c.args.place) ≡ c.args.place + ROW = omega arith in
    rw (← (rw (to_z-of_z hc, to_z-of_z hl, to_z-of_z hb) at c.if-not-is_row.ensures))
    (record { next_is = refl; buffer = ap₂ (λ x t. take c.args.place out ++ (x ++ t)) (c.copy_from_slice.ensures.after ∙ c.row.ensures) (drop-drop _ c.args.place out ∙ ap (λ n. drop n out) e) })
