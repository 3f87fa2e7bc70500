use Rattle.std.proofs.Common.{arith}
use Rattle.sp_frames.proofs.StreamLaws.{front}
use Rattle.sp_frames.proofs.reading.read_step.Goals as goal

pub returns : goal.returns
returns c = front c.args.bytes.now c.in_ok-step.step (λ i. omega (arith, c.type_inv.bytes i)) c.in_ok-step.ensures
