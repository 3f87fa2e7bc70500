use Rattle.std.proofs.Common.{arith}
use Rattle.sp_io.proofs.Known.{rose_later}
use Rattle.sp_io.proofs.spawn.Spawner.beside.Goals as goal

pub returns-in-Err-clause-cause : goal.returns-in-Err-clause-cause
returns-in-Err-clause-cause g c =
    let a = c.next_place.ensures.later in
    let b = c.count_refusal.ensures.later in
    record { later = omega arith; failed = rose_later _ _ _ a c.count_refusal.ensures.rose }
