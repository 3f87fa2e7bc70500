use Rattle.sp_frames.proofs.FaultLaws.{one_fault}
use Rattle.sp_frames.proofs.laws.one_fault.Goals as goal

pub returns : goal.returns
returns c = one_fault
