-- The zone rule for each province. Assumes nothing.
use mathlib.Core.Path.{◌≡◌}
use Prim.Native.Nat.{ℕ, ◌<◌}
use lib.Dec.{eqb}
use lib.ListN.{get_or}
use borrow.Author.Tests.{eqb-true}
use Rattle.zones.specs.Zones.{PROVINCES, ◌in_zone◌, provinces, counted, zone_of, zone_rule}
use Rattle.numbers.proofs.Places.{every_at}

pub zone_at : (i : ℕ) → i < PROVINCES → (get_or provinces i (0 in_zone 0)).zone ≡ zone_of (get_or provinces i (0 in_zone 0)).mean
zone_at i l = eqb-true _ _ (every_at (λ p. eqb p.zone (zone_of p.mean)) (0 in_zone 0) provinces zone_rule i (rw counted l))
