use Rattle.sp_frames.proofs.StreamLaws.{one_whole}
use Rattle.sp_frames.proofs.laws.one_whole.Goals as goal

pub returns : goal.returns
returns c = one_whole
