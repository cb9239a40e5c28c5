-- As many users after allot, stand-in and revise as the day, or the row, had. Assumes nothing.
use mathlib.Core.Path.{◌≡◌, ◌∙◌}
use mathlib.Core.List.{List, map}
use lib.IntN.{ℤ, nat_abs}
use lib.ListN.{length, length-map}
use Rattle.numbers.proofs.Lists.{zip_length}
use Rattle.proration.specs.Proration.{prorateZ}
use Rattle.point_day.specs.Day.{User, Day, numbers, whole}
use Rattle.point_day.specs.Calls.{none_in_2_to_5, user_shares, with_share, balanced, revised, Pair, users_of, amounts_of, opened, assigned}
use Rattle.point_day.proofs.Wholes.{shares_long, newcomer, opened_long, assigned_long}

pub balanced_long : (d : Day) → length (balanced d) ≡ length d.users
unfolding balanced
balanced_long d = zip_length (with_share (none_in_2_to_5 d.users)) d.users (user_shares d) (shares_long d)

pub opened_count : (z : ℤ) (ps : List Pair) → length (opened z ps) ≡ length ps
unfolding opened
opened_count z ps =
    zip_length revised (map newcomer ps) (prorateZ z (map nat_abs (amounts_of ps)) (users_of ps)) (opened_long z ps) ∙ length-map ps newcomer

pub assigned_count : (R : ℤ) (us : List User) → length (assigned R us) ≡ length us
unfolding assigned
assigned_count R us = zip_length revised us (prorateZ R (map (λ u. nat_abs (whole u)) us) (numbers us)) (assigned_long R us)
