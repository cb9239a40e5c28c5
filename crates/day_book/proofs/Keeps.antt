-- A call on a day that keeps the invariant leaves one that does, with the net that the call settles. Assumes nothing.
use mathlib.Core.Path.{◌≡◌, refl, ap, ◌∙◌}
use mathlib.Core.Bool.{Bool, true, false}
use lib.IntN.{ℤ, ◌-ℤ◌}
use borrow.Author.Tests.{not-false}
use Rattle.numbers.specs.Sums.{pick}
use Rattle.numbers.proofs.Lists.{both_snd}
use Rattle.point_day.specs.Limits.{TOLERANCE}
use Rattle.point_day.specs.Day.{Day, net, all_whole, no_more, provisional}
use Rattle.point_day.specs.Calls.{Move, Verdict, refuse, accept, verdict, revise_by, keep, assign}
use Rattle.point_day.specs.Struct.{laid, taken, Outcome, by, perform, called}
use Rattle.point_day.proofs.Good.{Good, allotted, taken_good, read_good, accepted}
use Rattle.point_day.proofs.Steps.{join_good, line_good, measure_good, start_final_good}
use Rattle.point_day.proofs.Settling.{allot_good, stand_in_good, assign_good}
use Rattle.day_book.specs.Run.{Call, join, line, lent_line, measure, allot, stand_in, revise, start_final, move}

-- R of a day
abbrev pub day_R : Day → ℤ
day_R d = net d -ℤ all_whole d.users

-- the settled net after an accepted call, if it was s before
abbrev pub settled_after : Call → Day → ℤ → ℤ
settled_after (join n) d s = s
settled_after (line n kind c k) d s = s
settled_after (lent_line n kind c k) d s = s
settled_after (measure emission downstream) d s = s
settled_after allot d s = net d
settled_after (stand_in rows) d s = net d
settled_after revise d s = pick (no_more TOLERANCE (day_R d)) s (net d)
settled_after start_final d s = s

pub revise_allotted : (d : Day) → verdict (move revise d).tests ≡ accept → d.allotted ≡ true
unfolding revise_by
revise_allotted d = go (no_more TOLERANCE (day_R d))
  where
    go : (p : Bool) → verdict (pick p (keep (day_R d) d) (assign (day_R d) d)).tests ≡ accept → d.allotted ≡ true
    go true v = both_snd (provisional d.stage) d.allotted (not-false _ (accepted (keep (day_R d) d).tests v).0)
    go false v = both_snd (provisional d.stage) d.allotted (not-false _ (accepted (assign (day_R d) d).tests v).0)

module _ (d : Day) (s : ℤ) (g : Good d s) where
  pub called_good : (m : Day → Move) → called m (laid d) ≡ perform (m d) (laid d)
  unfolding called
  called_good m = rw (taken_good d s g, read_good d s g)

  -- R of the point-day is net − settled net where the day stands allotted
  pub same_R : d.allotted ≡ true → day_R d ≡ net d -ℤ s
  same_R e = ap (λ z. net d -ℤ z) (allotted d s g e).adds_up

  revise_good : (p : Bool) → verdict (pick p (keep (day_R d) d) (assign (day_R d) d)).tests ≡ accept
      → Good (pick p (keep (day_R d) d) (assign (day_R d) d)).after (pick p s (net d))
  revise_good true v = g
  revise_good false v = assign_good (day_R d) d s g refl v

  pub good_after : (c : Call) → verdict (move c d).tests ≡ accept → Good (move c d).after (settled_after c d s)
  unfolding revise_by
  good_after (join n) v = join_good n d s g v
  good_after (line n kind c k) v = line_good n kind c k d s g v
  good_after (lent_line n kind c k) v = line_good n kind c k d s g v
  good_after (measure emission downstream) v = measure_good emission downstream d s g v
  good_after allot v = allot_good d s g v
  good_after (stand_in rows) v = stand_in_good TOLERANCE rows d s g v
  good_after revise v = revise_good (no_more TOLERANCE (day_R d)) v
  good_after start_final v = start_final_good d s g v

  -- so the point-day after the call is taken
  pub called_taken : (c : Call) → taken (called (move c) (laid d)).day ≡ true
  called_taken c = ap (λ (o : Outcome). taken o.day) (called_good (move c)) ∙ go (verdict (move c d).tests) refl
    where
      go : (v : Verdict) → verdict (move c d).tests ≡ v → taken (by v (move c d) (laid d)).day ≡ true
      go (refuse n) e = taken_good d s g
      go accept e = taken_good (move c d).after (settled_after c d s) (good_after c e)
