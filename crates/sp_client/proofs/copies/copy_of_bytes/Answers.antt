use Rattle.sp_client.proofs.Fit.{no_bytes_fit}
use Rattle.sp_client.proofs.copies.copy_of_bytes.Goals as goal

pub returns-in_ok-error_of-in-Err-clause-fits : goal.returns-in_ok-error_of-in-Err-clause-fits
returns-in_ok-error_of-in-Err-clause-fits c =
    no_bytes_fit c.args.mem.now c.args.index c.args.addr c.args.len _ _ c.in-Err.why c.requires.index c.in-Err.ensures.value
    c.in_ok-error_of-in-Err.ensures.known c.in_ok-error_of-in-Err.ensures.number c.none.ensures
