-- `calls_from_bytes::print_taken` is safe: the measurement and the count of a point-day that is taken are in range. Assumes nothing.
use native.Mathlib.Omega.{arith}
use Rattle.point_day.proofs.Taken.{taken_facts}
use Rattle.calls_from_bytes.proofs.print_taken.Goals as goal

pub print_measurement-requires : goal.print_measurement-requires
print_measurement-requires g c = (taken_facts c.args.day.now c.requires).measurement

pub print_user-requires : goal.print_user-requires
print_user-requires g c =
    let few = (taken_facts c.args.day.now c.requires).few in omega (arith, few)
