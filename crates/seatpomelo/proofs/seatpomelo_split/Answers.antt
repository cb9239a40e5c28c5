-- `seatpomelo::seatpomelo_split` meets its contract. Assumes nothing.
use mir.Facts.{to_z-of_z}
use Rattle.seatpomelo.proofs.seatpomelo_split.Goals as goal

pub returns : goal.returns
returns c = record {
  value = rw c.status.ensures (rw (to_z-of_z c.ranges.amount) at c.split.ensures.value);
  out_after = rw (to_z-of_z c.ranges.amount) at c.split.ensures.out_after;
}
