-- A line at its cell: the answer and what is written. Assumes nothing.
use mathlib.Core.Path.{◌≡◌, refl, ap, ◌∙◌}
use mathlib.Core.Bool.{Bool, true, false}
use mathlib.Core.List.{List}
use Prim.Native.Nat.{ℕ, ◌+◌, ◌≤◌, ◌<◌}
use lib.IntN.{ℤ}
use borrow.Author.Tests.{le-ltb, ltb-true, ltb-false}
use Rattle.numbers.specs.Sums.{pick}
use Rattle.point_day.specs.Limits.{LIMIT}
use Rattle.state.specs.Places.{more}
use Rattle.std.specs.Prelude.{Ok, Err}
use Rattle.numbers.specs.declared.Refusal.{Refusal}
use Rattle.numbers.specs.declared.Refusal.TheVariants.{AboveLimit}
use Rattle.line.specs.Cell.{line_losses, past_limit, line_on, place}

-- what the tested losses tell of the limit
module _ (sum c k : ℕ) where
  pub limit_refused : {r : Refusal} → Err r ≡ line_on sum c k → (r ≡ AboveLimit) × (LIMIT < sum + (c + line_losses c k))
  limit_refused {r} e = go (past_limit sum c k) refl e
    where
      go : (b : Bool) → past_limit sum c k ≡ b → Err r ≡ pick b (Err AboveLimit) (Ok (line_losses c k)) → (r ≡ AboveLimit) × (LIMIT < sum + (c + line_losses c k))
      go true q h = (cc, ltb-true LIMIT (sum + (c + line_losses c k)) q)
      go false q h = absurd cc

  pub limit_passed : {x : ℕ} → Ok x ≡ line_on sum c k → (x ≡ line_losses c k) × (sum + (c + x) ≤ LIMIT)
  limit_passed {x} e = go (past_limit sum c k) refl e
    where
      go : (b : Bool) → past_limit sum c k ≡ b → Ok x ≡ pick b (Err AboveLimit) (Ok (line_losses c k)) → (x ≡ line_losses c k) × (sum + (c + x) ≤ LIMIT)
      go true q h = absurd cc
      go false q h =
          let w : x ≡ line_losses c k = cc in
          (w, rw w (ltb-false LIMIT (sum + (c + line_losses c k)) q))

-- what a line within the limit writes
module _ (sum c k slot kind : ℕ) (cs ls : List ℤ) {x : ℕ} (e : Ok x ≡ line_on sum c k) where
  pub cell_added : {cs' ls' : List ℤ} → cs' ≡ more (place slot kind) c cs → ls' ≡ more (place slot kind) x ls
      → (cs' ≡ pick (past_limit sum c k) cs (more (place slot kind) c cs)) × (ls' ≡ pick (past_limit sum c k) ls (more (place slot kind) (line_losses c k) ls))
  cell_added p w =
      let l = limit_passed sum c k e in
      let q : past_limit sum c k ≡ false = le-ltb LIMIT (sum + (c + line_losses c k)) (rw (← l.0) l.1) in
      rw q (p, w ∙ ap (λ y. more (place slot kind) y ls) l.0)
