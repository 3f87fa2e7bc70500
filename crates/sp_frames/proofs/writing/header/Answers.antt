use Rattle.std.proofs.Common.{arith}
use Rattle.sp_frames.proofs.ReadLaws.{body_read}
use Rattle.sp_frames.proofs.writing.header.Goals as goal

pub overflow_add-result : goal.overflow_add-result
overflow_add-result c = omega (arith, (body_read c.args.frame.now.body c.requires.fits.body).few, c.requires.payload)
