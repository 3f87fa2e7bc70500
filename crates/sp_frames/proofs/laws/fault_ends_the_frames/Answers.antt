use Rattle.sp_frames.proofs.StreamLaws.{fault_ends_the_frames}
use Rattle.sp_frames.proofs.laws.fault_ends_the_frames.Goals as goal

pub returns : goal.returns
returns c = fault_ends_the_frames
