use Rattle.sp_hub.proofs.kernel.fork.Goals as goal

pub returns-in-Err-clause-err_cookies : goal.returns-in-Err-clause-err_cookies
returns-in-Err-clause-err_cookies c = c.unmake.ensures c.args.cookies.now _ c.requires.jar c.in-Ok.ensures.jar
