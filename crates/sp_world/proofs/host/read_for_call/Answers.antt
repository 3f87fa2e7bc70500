use Rattle.kern_model.specs.declared.operation.Ins.TheVariants.{Fault}
use Rattle.kern_model.specs.declared.operation.Op.TheVariants.{Sys}
use Rattle.sp_world.proofs.HostLaws.{fault_read, fits_read}
use Rattle.sp_world.proofs.host.read_for_call.Goals as goal

pub returns-in-Some-clause-fits : goal.returns-in-Some-clause-fits
returns-in-Some-clause-fits c =
    let call = c.args.call.now in
    let mem = c.args.mem.now in
    fits_read (Sys call) mem (Fault c.in-Some.error) (fault_read call mem c.in-Err.fault c.in-Some.error c.in-Err.ensures.value c.in-Some.ensures)
