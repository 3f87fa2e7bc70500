use Rattle.sp_frames.proofs.StreamLaws.{no_prefix}
use Rattle.sp_frames.proofs.laws.no_prefix.Goals as goal

pub returns : goal.returns
returns c = no_prefix
