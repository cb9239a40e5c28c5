use mathlib.Core.Bool.{true}
use mathlib.Core.Path.{◌≡◌, refl, sym, ap, ◌∙◌}
use mathlib.Core.List.{List, ◌++◌}
use Prim.Native.Nat.{ℕ, ◌+◌, ◌*◌, ◌≤◌, ◌<◌}
use native.Mathlib.Omega.{arith}
use lib.ListN.{drop, length}
use Rattle.std.specs.Prelude.{Result, Ok, Err, IsOk, IsErr, OnErr}
use Rattle.std.proofs.Math.Nat.{mul-le-mul_left, lt_of_not-le}
use Rattle.std.proofs.lemmas.List.{drop-drop, set-get_or}
use Rattle.std.proofs.Common.{length-drop}
use Rattle.numbers.specs.Sums.{table}
use Rattle.numbers.proofs.Lists.{never}
use Rattle.numbers.proofs.Filled.{fill_none, fill_step, fill_all}
use Rattle.console.specs.Input.{spelled_in}
use Rattle.console.proofs.input.Input.read_all.Goals as goal

not_both : {T E : Type 0} (r : Result T E) {X : Type 0} → IsOk r → IsErr r → X
not_both (Ok x) a b = never b
not_both (Err e) a b = never a

as_far : {A T E : Type 0} (r : Result T E) (now : List ℕ) (xs : List A) (f : ℕ → List A) (s : List ℕ) (size k : ℕ) → size * k ≤ length s → length s < size * (k + 1) → now ≡ drop (size * k) s → xs ≡ f k
    → OnErr r ((j : ℕ) × (size * j ≤ length s) × (length s < size * (j + 1)) × (now ≡ drop (size * j) s) × (xs ≡ f j))
as_far (Ok x) now xs f s size k l h m e = tt
as_far (Err d) now xs f s size k l h m e = (k, l, h, m, e)

pub loop-x-init : goal.loop-x-init
loop-x-init g c =
    let e : g.T.Number.size * 0 ≡ 0 = omega arith in
    record { filled = fill_none _ _; rest = rw e refl; there = omega arith }

pub loop-x-preserved : goal.loop-x-preserved
loop-x-preserved g c =
    let size = g.T.Number.size in
    let i = c.loop-x.x-index in
    let s = c.args.self.now in
    let at = c.loop-x.invariant in
    let e : size * (i + 1) ≡ size * i + size = omega arith in
    record {
      filled = fill_step at.filled (omega arith) (c.in_ok-x.ensures.value ∙ ap g.T.Number.spelled at.rest);
      rest = c.in_ok-x.ensures.rest ∙ ap (drop size) at.rest ∙ drop-drop size (size * i) s ∙ ap (λ n. drop n s) (sym e);
      there = let m : size ≤ length c.loop-x.self = c.in_ok-x.ensures.ok.0 (refl {a = true}) in omega (arith, at.there, m, ap length at.rest, length-drop (size * i) s);
    }

pub returns-clause-value : goal.returns-clause-value
unfolding spelled_in
returns-clause-value g c =
    let e : c.loop-x.x-index ≡ length c.args.list.now = omega arith in
    fill_all c.loop-x.invariant.filled (omega arith) ∙ ap (table (λ i. g.T.Number.spelled (drop (g.T.Number.size * i) c.args.self.now))) e

pub returns-clause-ok : goal.returns-clause-ok
returns-clause-ok g c =
    let e : c.loop-x.x-index ≡ length c.args.list.now = omega arith in
    let h : g.T.Number.size * length c.args.list.now ≤ length c.args.self.now = rw (← e) c.loop-x.invariant.there in
    (λ _. h, λ _. refl)

pub returns-clause-rest : goal.returns-clause-rest
returns-clause-rest g c =
    let e : c.loop-x.x-index ≡ length c.args.list.now = omega arith in rw (← e) c.loop-x.invariant.rest

pub returns-in_err-x-clause-ok : goal.returns-in_err-x-clause-ok
returns-in_err-x-clause-ok g c =
    let size = g.T.Number.size in
    let i = c.loop-x.x-index in
    let l : i + 1 ≤ length c.args.list.now = omega arith in
    let m : size * (i + 1) ≤ size * length c.args.list.now = mul-le-mul_left size l in (
      λ ok. not_both _ ok c.from_residual.ensures.0,
      λ there.
          let whole : size ≤ length c.loop-x.self = omega (arith, m, there, ap length c.loop-x.invariant.rest, length-drop (size * i) c.args.self.now) in never (c.in_err-x.ensures.ok.1 whole),
    )

pub returns-in_err-x-clause-cut_short : goal.returns-in_err-x-clause-cut_short
unfolding spelled_in
returns-in_err-x-clause-cut_short g c =
    let size = g.T.Number.size in
    let i = c.loop-x.x-index in
    as_far c.from_residual.result _ _ (λ k. table (λ j. g.T.Number.spelled (drop (g.T.Number.size * j) c.args.self.now)) k ++ drop k c.args.list.now) c.args.self.now size i c.loop-x.invariant.there
    (lt_of_not-le
    (λ l. never (c.in_err-x.ensures.ok.1 (omega (arith, l, ap length c.loop-x.invariant.rest, length-drop (size * i) c.args.self.now)))))
    (c.in_err-x.ensures.same ∙ c.loop-x.invariant.rest)
    (set-get_or _ _ _ ∙ c.loop-x.invariant.filled.is)
