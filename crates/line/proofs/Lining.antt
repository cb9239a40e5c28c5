-- Line: a line added at its cell is the layout of the day after it, and each outcome of the call. Assumes nothing.
use mathlib.Core.Path.{◌≡◌, refl, sym, ap, ap₂, ◌∙◌}
use mathlib.Core.Bool.{Bool, true, false, not}
use mathlib.Core.List.{List, [], ◌∷◌, map}
use Prim.Native.Nat.{ℕ, zero, suc, ◌+◌, ◌-◌, ◌*◌, ◌≤◌, ◌<◌}
use native.Mathlib.Omega.{arith}
use lib.Dec.{ltb}
use lib.IntN.{pos, nat_abs}
use lib.ListN.{length-take, length, get_or, take, set, length-map, length-set, get_or-map}
use lib.Seq.{get_or-take, map-set_same}
use mir.Syntax.{w64}
use mir.Val.{of_z, to_z}
use borrow.Author.Tests.{eq-eqb, ne_eqb, not-true, lt-ltb, le-ltb}
use Rattle.numbers.specs.Sums.{pick, at}
use Rattle.numbers.specs.Lists.{has, distinct, flat}
use Rattle.numbers.specs.Nearest.{nearest}
use Rattle.numbers.proofs.Lists.{All, all_map, true≢false, both_fst, both_snd, has_at}
use Rattle.point_day.specs.Limits.{USERS, CELLS, LIMIT, PARTS}
use Rattle.point_day.specs.Fields.{same_fields}
use Rattle.point_day.specs.Day.{User, Day, numbers, all_offtake}
use Rattle.point_day.specs.Calls.{refused, losses_added, verdict, with_users, cell_step, user_line, for_user, line_right, line}
use Rattle.point_day.specs.Struct.{Sized, read, padded, laid, taken, outcome, called}
use Rattle.point_day.specs.declared.PointDay.{PointDay}
use Rattle.point_day.proofs.Taken.{taken_facts}
use Rattle.point_day.proofs.Arrays.{Full, nobody, length_flat}
use Rattle.point_day.proofs.Back.{read_full, read_count, read_numbers, laid_read}
use Rattle.point_day.proofs.Steps.{for_nobody}
use Rattle.point_day.proofs.Called.{called_refused, called_accepted, test_holds, test_passed, none_left}
use Rattle.state.specs.Places.{more}
use Rattle.taken.specs.Tested.{Known}
use Rattle.taken.specs.declared.State.{State}
use Rattle.taken.proofs.Facts.{sum_kept, entering_sum}
use Rattle.line.specs.Lined.{with_cells, lined_at, Lines, Stands}
use Rattle.line.specs.Cell.{line_losses, past_limit, place}
use Rattle.line.proofs.cells.Ranges.{ranges}
use Rattle.point_day.proofs.Padding.{padded_set, map_set, flat_set, at_flat}

-- ---- one user of many

map_for : (n : ℕ) (f : User → User) (us : List User) (s : ℕ) → distinct (numbers us) ≡ true → s < length us → at (numbers us) s ≡ n
    → map (for_user n f) us ≡ set us s (f (get_or us s nobody))
unfolding distinct
map_for n f [] s e l h = absurd (omega arith)
map_for n f (u ∷ us) zero e l h =
    ap₂ ◌∷◌ (ap (λ p. pick p (f u) u) (eq-eqb u.number n h))
    (for_nobody n f us (ap (λ m. has m (numbers us)) (sym h) ∙ not-true _ (both_fst (not (has u.number (numbers us))) _ e)))
map_for n f (u ∷ us) (suc s) e l h =
    ap₂ ◌∷◌
    (ap (λ p. pick p (f u) u)
    (ne_eqb u.number n (λ z. true≢false (sym (has_at u.number (numbers us) s (omega (arith, length-map us (λ (u : User). u.number))) (h ∙ sym z)) ∙ not-true _ (both_fst (not (has u.number (numbers us))) _ e)))))
    (map_for n f us s (both_snd (not (has u.number (numbers us))) _ e) (omega arith) h)

-- ---- the day after line

module _ (n kind c k : ℕ) (D : Day) (full : All Full D.users) (apart : distinct (numbers D.users) ≡ true) (s : ℕ) (m : s < length D.users) (here : at (numbers D.users) s ≡ n) (r : kind - 1 < 5) where
  cells : (g : User → List ℕ) (x : ℕ) → All (λ u. length (g u) ≡ 5) D.users
      → g (user_line kind c k (get_or D.users s nobody)) ≡ set (g (get_or D.users s nobody)) (kind - 1) (get_or (g (get_or D.users s nobody)) (kind - 1) 0 + x)
      → padded CELLS (pos 0) (flat (map (λ u. map pos (g u)) (set D.users s (user_line kind c k (get_or D.users s nobody)))))
      ≡ more (place s kind) x (padded CELLS (pos 0) (flat (map (λ u. map pos (g u)) D.users)))
  cells g x h e =
      let u = get_or D.users s nobody in
      let h' = all_map (λ u. length (g u) ≡ 5) (λ u. length (map pos (g u)) ≡ 5) (λ u q. length-map (g u) pos ∙ q) D.users h in
      rw (at_flat (pos 0) (pos 0) (λ u. map pos (g u)) D.users s (kind - 1) h' m r, get_or-map pos (g u) (kind - 1) 0)
      (ap (padded CELLS (pos 0)) (flat_set (λ u. map pos (g u)) D.users s (kind - 1) (pos (get_or (g u) (kind - 1) 0 + x)) (user_line kind c k u) h' m r (ap (map pos) e ∙ map_set pos (g u) (kind - 1) (get_or (g u) (kind - 1) 0 + x)))
      ∙ padded_set (pos 0) CELLS (flat (map (λ u. map pos (g u)) D.users)) (5 * s + (kind - 1)) (pos (get_or (g u) (kind - 1) 0 + x)) (omega (arith, length_flat (λ u. map pos (g u)) D.users h')))

  laid_line : laid (with_users (map (for_user n (user_line kind c k)) D.users) D)
      ≡ with_cells (more (place s kind) c (laid D).consumption) (more (place s kind) (line_losses c k) (laid D).losses) (laid D)
  unfolding laid cell_step
  laid_line = ap (λ us. laid (with_users us D)) (map_for n (user_line kind c k) D.users s apart m here) ∙ same_fields (record {
    stage = refl;
    allotted = refl;
    measurement = refl;
    count = length-set D.users s w;
    users = ap (padded USERS 0) (map-set_same (λ (u : User). u.number) D.users s w nobody refl);
    consumption = cells (λ (u : User). u.consumption) c (all_map Full _ (λ u h. h.consumption) D.users full) refl;
    losses = cells (λ (u : User). u.losses) (nearest (c * k) PARTS) (all_map Full _ (λ u h. h.losses) D.users full) refl;
    balance = ap (λ bs. padded CELLS (pos 0) (flat bs)) (map-set_same (λ (u : User). u.balance) D.users s w nobody refl);
    revision = ap (padded USERS (pos 0)) (map-set_same (λ (u : User). u.revision) D.users s w nobody refl);
  })
    where
      w : User
      w = user_line kind c k (get_or D.users s nobody)

-- ---- the outcomes

module _ (n kind c k : ℕ) (d : PointDay) (z : Sized d) (ok : taken d ≡ true) where
  line_tests : verdict (line n kind c k (read d)).tests
      ≡ verdict
      (record { number = 1; holds = d.allotted }
      ∷ record { number = 2; holds = not (line_right n kind c k) }
      ∷ record { number = 3; holds = not (has n (take d.count d.users)) }
      ∷ record { number = 6; holds = past_limit (all_offtake (read d).users) c k }
      ∷ [])
  unfolding line cell_step
  line_tests = rw (read_numbers d z (taken_facts d ok)) (unfold read in refl)

  pub line_1 : d.allotted ≡ true → outcome (refused 1) d ≡ called (line n kind c k) d
  line_1 e = called_refused (line n kind c k) d 1 ok (line_tests ∙ test_holds 1 d.allotted _ e)

  module _ (e : d.allotted ≡ false) where
    pub line_2 : line_right n kind c k ≡ false → outcome (refused 2) d ≡ called (line n kind c k) d
    line_2 h = called_refused (line n kind c k) d 2 ok (line_tests ∙ test_passed 1 d.allotted _ e (test_holds 2 (not (line_right n kind c k)) _ (ap not h)))

    module _ (h : line_right n kind c k ≡ true) where
      pub line_3 : has n (take d.count d.users) ≡ false → outcome (refused 3) d ≡ called (line n kind c k) d
      line_3 m =
          called_refused (line n kind c k) d 3 ok
          (line_tests ∙ test_passed 1 d.allotted _ e (test_passed 2 (not (line_right n kind c k)) _ (ap not h) (test_holds 3 (not (has n (take d.count d.users))) _ (ap not m))))

      module _ (s : ℕ) (m : s < d.count) (there : get_or d.users s 0 ≡ n) where
        here : at (numbers (read d).users) s ≡ n
        here = rw (read_numbers d z (taken_facts d ok)) (get_or-take d.count d.users s 0 m ∙ there)

        found : has n (take d.count d.users) ≡ true
        found =
            let t = taken_facts d ok in
            sym (ap (has n) (read_numbers d z t))
            ∙ has_at n (numbers (read d).users) s (omega (arith, length-map (read d).users (λ (u : User). u.number), read_count d z t)) here

        after : with_cells (more (place s kind) c d.consumption) (more (place s kind) (line_losses c k) d.losses) d ≡ laid (line n kind c k (read d)).after
        unfolding line
        after =
            let t = taken_facts d ok in
            let r = ranges n kind c k h in
            sym
            (laid_line n kind c k (read d) (read_full d z t) t.apart s (omega (arith, read_count d z t)) here (omega (arith, r.high))
            ∙ ap (λ (x : PointDay). with_cells (more (place s kind) c x.consumption) (more (place s kind) (line_losses c k) x.losses) x) (laid_read d z t))

        pub line_done : (sum : ℕ) → sum ≡ all_offtake (read d).users → lined_at s kind c k sum d ≡ called (line n kind c k) d
        line_done sum q = ap (λ y. lined_at s kind c k y d) q ∙ go (past_limit (all_offtake (read d).users) c k) refl
          where
            passed : (b : Bool) → past_limit (all_offtake (read d).users) c k ≡ b → verdict (line n kind c k (read d)).tests ≡ verdict (record { number = 6; holds = b } ∷ [])
            passed b x =
                line_tests
                ∙ test_passed 1 d.allotted _ e (test_passed 2 (not (line_right n kind c k)) _ (ap not h) (test_passed 3 (not (has n (take d.count d.users))) _ (ap not found) (ap (λ y. verdict (record { number = 6; holds = y } ∷ [])) x)))

            go : (b : Bool) → past_limit (all_offtake (read d).users) c k ≡ b
                → outcome (pick b (refused 6) (losses_added (line_losses c k)))
                (pick b d (with_cells (more (place s kind) c d.consumption) (more (place s kind) (line_losses c k) d.losses) d))
                ≡ called (line n kind c k) d
            go true x = called_refused (line n kind c k) d 6 ok (passed true x ∙ test_holds 6 true [] refl)
            go false x =
                ap (outcome (losses_added (line_losses c k))) after
                ∙ unfold line cell_step in called_accepted (line n kind c k) d ok (passed false x ∙ test_passed 6 false [] refl none_left)

        -- what the code's last test finds, x being the losses to add
        module _ (sum x : ℕ) (q : sum ≡ all_offtake (read d).users) (w : x ≡ line_losses c k) where
          pub line_6 : LIMIT < sum + (c + x) → outcome (refused 6) d ≡ called (line n kind c k) d
          line_6 l =
              let b : past_limit sum c k ≡ true = ap (λ y. ltb LIMIT (sum + (c + y))) (sym w) ∙ lt-ltb LIMIT (sum + (c + x)) l in
              rw b at (line_done sum q)

          pub line_passed : sum + (c + x) ≤ LIMIT → Lines n kind c k d (place s kind) x
          line_passed l =
              let b : past_limit sum c k ≡ false = ap (λ y. ltb LIMIT (sum + (c + y))) (sym w) ∙ le-ltb LIMIT (sum + (c + x)) l in
              let r = ranges n kind c k h in
              record {
                is = ap (λ y. outcome (losses_added y) (with_cells (more (place s kind) c d.consumption) (more (place s kind) y d.losses) d)) w ∙ rw b at (line_done sum q);
                taken = ok;
                place = omega (arith, (taken_facts d ok).few, r.low, r.high);
                amount = r.consumption;
                added = omega arith;
              }

-- ---- a user that has joined

pub standing_at : {us : List ℕ} {count offtake : ℕ} {d : PointDay} → Stands us count offtake d → (n slot : ℕ) → (slot < length (take count us)) × (get_or (take count us) slot 0 ≡ n)
    → (slot < d.count) × (get_or d.users slot 0 ≡ n)
standing_at {us} {count} s n slot q =
    let m : slot < count = omega (arith, length-take count us, q.0) in
    (omega (arith, s.joined), rw s.users (sym (get_or-take count us slot 0 m) ∙ q.1))

-- ---- the test of the state

-- an entering point-day, as its test found it; the sum of its whole amounts as the code holds it
pub stands : {d : PointDay} {s : State} → Known d s → s.allotted ≡ false → Stands s.users s.count (nat_abs (to_z w64 (of_z w64 s.sum))) d
stands {d} k e =
    let a = k.allotted ∙ e in
    record {
      sized = k.sized;
      is_taken = k.is_taken;
      entering = a;
      users = k.users;
      joined = k.count;
      sum = ap nat_abs (sum_kept d k.sized k.is_taken k.sum ∙ entering_sum d k.sized k.is_taken a);
    }
