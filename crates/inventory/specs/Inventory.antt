-- Document 01, section "Day file and inventory": the inventory of an allotted point-day. Assumes nothing.
use Rattle.std.specs.Prelude.{Result, Ok, Err, Bool, true, not, List, [], ◌∷◌, ◌++◌, map, ◌≡◌, refl, ℕ, ◌-◌, ◌*◌, ltb, eqb, ℤ, pos, negsuc, length, drop, replicate}
use Rattle.numbers.specs.Refusals.{number_of}
use Rattle.numbers.specs.declared.Refusal.{Refusal}
use Rattle.numbers.specs.Sums.{pick, at, atZ}
use Rattle.numbers.specs.Lists.{both, flat}
use Rattle.point_day.specs.Limits.{KINDS}
use Rattle.point_day.specs.Day.{User, Day, is_zero}
use Rattle.point_day.specs.Calls.{Test, ◌when◌, Verdict, refuse, accept, verdict, kinds}
use Rattle.point_day.specs.Struct.{read, taken}
use Rattle.point_day.specs.declared.PointDay.{PointDay}
use Rattle.point_day.specs.declared.Stage.TheVariants.{Provisional}
use Rattle.inventory.specs.Row.{ROW}
use Rattle.point_day.specs.Day.{metered}

-- ---- rows

-- "five numbers (user, kind, consumption, losses, balance)"
pub record Row : Type 0 where
  pub user : ℕ
  pub kind : ℕ
  pub consumption : ℕ
  pub losses : ℕ
  pub balance : ℤ

abbrev pub five : Row → List ℤ
five r = pos r.user ∷ pos r.kind ∷ pos r.consumption ∷ pos r.losses ∷ r.balance ∷ []

-- the row of a user and kind
abbrev pub row_of : User → ℕ → Row
row_of u kind = record {
  user = u.number;
  kind = kind;
  consumption = at u.consumption (kind - 1);
  losses = at u.losses (kind - 1);
  balance = atZ u.balance (kind - 1);
}

-- "not all zero"
abbrev pub some_amount : Row → Bool
some_amount r = not (both (eqb r.consumption 0) (both (eqb r.losses 0) (is_zero r.balance)))

-- the elements for which the test holds
unfoldable pub those : {A : Type 0} → (A → Bool) → List A → List A
those p [] = []
those p (x ∷ xs) = pick (p x) (x ∷ those p xs) (those p xs)

-- a row "for each user and kind not all zero"
unfoldable pub rows : Day → List Row
rows d = those some_amount (flat (map (λ u. map (row_of u) kinds) d.users))

-- ---- the answer

-- the number of a refusal, or "the count of rows"
pub data Answer : Type 0 where
  refused : ℕ → Answer
  written : ℕ → Answer

-- the rows of section "Refusals" that apply: 1, "the stage doesn't take the call", and 14, "lent buffer under five numbers a row"
unfoldable pub tests : Day → List ℤ → List Test
tests d buffer = (1 when not d.allotted) ∷ (14 when ltb (length buffer) (ROW * length (rows d))) ∷ []

abbrev pub by : Verdict → ℕ → Answer
by (refuse n) count = refused n
by accept count = written count

-- a point-day that is not taken "gives 2 before any other test"
unfoldable pub inventory : PointDay → List ℤ → Answer
inventory d buffer = pick (taken d) (by (verdict (tests (read d) buffer)) (length (rows (read d)))) (refused 2)

-- what the code's answer stands for
abbrev pub answer_of : Result ℕ Refusal → Answer
answer_of (Err r) = refused (number_of r)
answer_of (Ok count) = written count

-- ---- the lent buffer afterwards

-- the same elements, each as often, in any order: two neighbours change places, once or again and again
pub data Reordered {A : Type 0} : List A → List A → Type 0 where
  none : Reordered [] []
  keep : {x : A} {xs ys : List A} → Reordered xs ys → Reordered (x ∷ xs) (x ∷ ys)
  swap : {x y : A} {xs : List A} → Reordered (x ∷ (y ∷ xs)) (y ∷ (x ∷ xs))
  next : {xs ys zs : List A} → Reordered xs ys → Reordered ys zs → Reordered xs zs

-- "Rows come in any order, each exactly once", and "later numbers stay"
pub record Written (d : Day) (before after : List ℤ) : Type 0 where
  -- the rows as they stand in the buffer
  pub listed : List Row
  pub each_once : Reordered listed (rows d)
  pub buffer : after ≡ flat (map five listed) ++ drop (ROW * length listed) before

-- "A refused call .. changes nothing"
abbrev pub Afterwards : Answer → Day → List ℤ → List ℤ → Type 0
Afterwards (refused n) d before after = after ≡ before
Afterwards (written count) d before after = Written d before after

-- ---- an example: user 7 with amounts in kinds 1 and 3, user 5 with a revision alone, user 6 with a balance alone

sample : Day
sample = record {
  stage = Provisional;
  allotted = true;
  measurement = metered 1000 100;
  users =
      user 7 (300 ∷ 0 ∷ 200 ∷ 0 ∷ 0 ∷ []) (3 ∷ 0 ∷ 0 ∷ 0 ∷ 0 ∷ []) (pos 0 ∷ pos 0 ∷ pos 96 ∷ pos 0 ∷ pos 0 ∷ []) 0
      ∷ user 5 (replicate KINDS 0) (replicate KINDS 0) (replicate KINDS (pos 0)) 8
      ∷ user 6 (replicate KINDS 0) (replicate KINDS 0) (negsuc 1 ∷ pos 0 ∷ pos 0 ∷ pos 0 ∷ pos 0 ∷ []) 0
      ∷ [];
}
  where
    user : ℕ → List ℕ → List ℕ → List ℤ → ℕ → User
    user n cs ls bs r = record { number = n; consumption = cs; losses = ls; balance = bs; revision = pos r }

sample_rows : flat (map five (rows sample))
    ≡ pos 7 ∷ pos 1 ∷ pos 300 ∷ pos 3 ∷ pos 0
    ∷ pos 7 ∷ pos 3 ∷ pos 200 ∷ pos 0 ∷ pos 96
    ∷ pos 6 ∷ pos 1 ∷ pos 0 ∷ pos 0 ∷ negsuc 1
    ∷ []
unfolding rows those flat sample
sample_rows = refl
