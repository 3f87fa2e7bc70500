use Rattle.sp_frames.proofs.StreamLaws.{fault_stays}
use Rattle.sp_frames.proofs.laws.fault_stays.Goals as goal

pub returns : goal.returns
returns c = fault_stays
