-- `plain_day::writes::put_users` meets its contract: the first i users are written. Assumes nothing.
use mathlib.Core.Path.{◌≡◌, sym, ap, ◌∙◌}
use mathlib.Core.List.{◌++◌, map}
use Prim.Native.Nat.{◌+◌}
use native.Mathlib.Omega.{arith}
use native.Mathlib.Numerals.{add-one}
use lib.IntN.{pos}
use lib.ListN.{length, take, drop, get_or, set, length-map, get_or-map}
use lib.Seq.{paste, paste-zero, paste-suc, length-paste, take-length}
use mir.Syntax.{w64}
use mir.Val.{SFits}
use mir.Facts.{to_z-of_z}
use Rattle.plain_day.specs.Layout.{USERS_AT}
use borrow.Author.Rules.{rules}
use Rattle.plain_day.proofs.writes.put_users.Goals as goal

pub loop-i-init : goal.loop-i-init
loop-i-init c = (omega arith, paste-zero c.args.day.now USERS_AT (map pos c.args.users.now))

pub bounds-day-i : goal.bounds-day-i
bounds-day-i c =
    let a = c.args in
    let m = length-map a.users.now pos in
    omega (arith, ap length c.loop-i.invariant.1, length-paste a.day.now USERS_AT (map pos a.users.now) c.loop-i.i (omega (arith, m, c.requires.0, c.requires.1)) (omega (arith, m)), c.requires.0, c.requires.1)

pub loop-i-preserved : goal.loop-i-preserved
loop-i-preserved c =
    let us = c.args.users.now in
    let v = c.loop-i in
    let h : SFits w64 c.from.result = search rules in
    let m = length-map us pos in (
      omega arith,
      ap (λ z. set v.day (USERS_AT + v.i) z) (to_z-of_z h ∙ c.from.ensures ∙ sym (get_or-map pos us v.i 0))
          ∙ ap (λ t. set t (USERS_AT + v.i) (get_or (map pos us) v.i (pos 0))) v.invariant.1
          ∙ paste-suc c.args.day.now USERS_AT (map pos us) v.i (pos 0) (omega (arith, c.requires.0, c.requires.1)) (omega (arith, m))
          ∙ ap (paste c.args.day.now USERS_AT (map pos us)) (sym (add-one v.i)),
    )

pub shape_of-day : goal.shape_of-day
shape_of-day c =
    let m = length-map c.args.users.now pos in
    ap length c.loop-i.invariant.1 ∙ length-paste c.args.day.now USERS_AT (map pos c.args.users.now) c.loop-i.i (omega (arith, m, c.requires.0, c.requires.1)) (omega (arith, m))

pub returns : goal.returns
returns c =
    let a = c.args in
    let us = map pos a.users.now in
    let e : c.loop-i.i ≡ length us = omega (arith, length-map a.users.now pos) in
    c.loop-i.invariant.1 ∙ ap (paste a.day.now USERS_AT us) e ∙ ap (λ t. take USERS_AT a.day.now ++ t ++ drop (USERS_AT + length us) a.day.now) (take-length us)
