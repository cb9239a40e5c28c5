-- Start-final: zeros are the layout of the day after it, and each outcome of the call. Assumes nothing.
use mathlib.Core.Path.{◌≡◌, refl, sym, ap, ap₂, ◌∙◌}
use mathlib.Core.Bool.{true, false, not}
use mathlib.Core.List.{List, [], ◌∷◌, ◌++◌, map}
use Prim.Native.Nat.{ℕ, suc, ◌+◌, ◌-◌, ◌*◌, ◌≤◌}
use native.Mathlib.Omega.{arith}
use lib.IntN.{ℤ, pos}
use lib.ListN.{length, replicate, length-map, length-replicate, replicate-append-replicate}
use Rattle.numbers.specs.Lists.{either, flat}
use Rattle.numbers.proofs.Lists.{map_map}
use Rattle.point_day.specs.Fields.{same_fields}
use Rattle.point_day.specs.Limits.{USERS, CELLS}
use Rattle.point_day.specs.Day.{User, Day, empty_user, last_stage}
use Rattle.point_day.specs.Calls.{refused, done, verdict, cleared, start_final}
use Rattle.point_day.specs.Struct.{Sized, read, padded, laid, taken, outcome, called}
use Rattle.point_day.specs.declared.PointDay.{PointDay}
use Rattle.point_day.proofs.Taken.{taken_facts}
use Rattle.point_day.proofs.Back.{read_count, laid_read}
use Rattle.point_day.proofs.Called.{called_refused, called_accepted, test_holds, test_passed, none_left}
use Rattle.start_final.specs.Writes.{restarted, Starts, Tested}

-- ---- zeros

padded_none : {A : Type 0} (x : A) (n k : ℕ) → k ≤ n → padded n x (replicate k x) ≡ replicate n x
unfolding padded
padded_none {A} x n k l =
    let e : k + (n - k) ≡ n = omega arith in
    rw (length-replicate {A = A} k x) (replicate-append-replicate k (n - k) x ∙ ap (λ m. replicate m x) e)

flat_none : {A : Type 0} (x : A) (g : User → List A) → ((n : ℕ) → g (empty_user n) ≡ replicate 5 x) → (us : List User) → flat (map g (map cleared us)) ≡ replicate (5 * length us) x
unfolding flat
flat_none x g e [] = refl
flat_none x g e (u ∷ us) =
    let q : 5 + 5 * length us ≡ 5 * suc (length us) = omega arith in
    ap₂ ◌++◌ (e u.number) (flat_none x g e us) ∙ replicate-append-replicate 5 (5 * length us) x ∙ ap (λ m. replicate m x) q

map_none : {A : Type 0} (x : A) (g : User → A) → ((n : ℕ) → g (empty_user n) ≡ x) → (us : List User) → map g (map cleared us) ≡ replicate (length us) x
map_none x g e [] = refl
map_none x g e (u ∷ us) = ap₂ ◌∷◌ (e u.number) (map_none x g e us)

module _ (D : Day) (l : length D.users ≤ USERS) where
  none : (g : User → List ℤ) → ((n : ℕ) → g (empty_user n) ≡ replicate 5 (pos 0)) → padded CELLS (pos 0) (flat (map g (map cleared D.users))) ≡ replicate CELLS (pos 0)
  none g e = ap (padded CELLS (pos 0)) (flat_none (pos 0) g e D.users) ∙ padded_none (pos 0) CELLS (5 * length D.users) (omega arith)

  laid_start : laid (start_final D).after ≡ restarted (laid D)
  unfolding laid start_final
  laid_start = same_fields (record {
    stage = refl;
    allotted = refl;
    measurement = refl;
    count = length-map D.users cleared;
    users = ap (padded USERS 0) (map_map (λ (u : User). u.number) cleared D.users);
    consumption = none (λ u. map pos u.consumption) (λ n. refl);
    losses = none (λ u. map pos u.losses) (λ n. refl);
    balance = none (λ (u : User). u.balance) (λ n. refl);
    revision = revisions;
  })
    where
      revisions : padded USERS (pos 0) (map (λ (u : User). u.revision) (map cleared D.users)) ≡ replicate USERS (pos 0)
      revisions = ap (padded USERS (pos 0)) (map_none (pos 0) (λ (u : User). u.revision) (λ n. refl) D.users) ∙ padded_none (pos 0) USERS (length D.users) l

-- ---- the outcomes

module _ (d : PointDay) (z : Sized d) (ok : taken d ≡ true) where
  start_tests : verdict (start_final (read d)).tests ≡ verdict (record { number = 1; holds = either (not d.allotted) (last_stage d.stage) } ∷ [])
  unfolding start_final read
  start_tests = refl

  pub start_1 : either (not d.allotted) (last_stage d.stage) ≡ true → outcome (refused 1) d ≡ called start_final d
  start_1 h = called_refused start_final d 1 ok (start_tests ∙ test_holds 1 _ [] h)

  pub start_done : {r : PointDay} → either (not d.allotted) (last_stage d.stage) ≡ false → r ≡ restarted d → outcome done r ≡ called start_final d
  unfolding start_final
  start_done {r} h q =
      let t = taken_facts d ok in
      ap (λ (x : PointDay). outcome done x)
      (q ∙ ap restarted (sym (laid_read d z t)) ∙ sym (laid_start (read d) (omega (arith, read_count d z t, t.few))))
      ∙ called_accepted start_final d ok (start_tests ∙ test_passed 1 _ [] h none_left)

-- ---- the code's tests

pub fails : (d : PointDay) (r : ℕ) → outcome (refused (suc r)) d ≡ called start_final d → Tested d (suc r)
fails d r o = record { passed = λ q. absurd (omega arith); failed = λ h. o }

pub passes : (d : PointDay) → Starts d → Tested d 0
passes d s = record { passed = λ q. s; failed = λ h. absurd (h refl) }
