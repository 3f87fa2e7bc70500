use Rattle.sp_frames.proofs.StreamLaws.{one_spelling}
use Rattle.sp_frames.proofs.laws.one_spelling.Goals as goal

pub returns : goal.returns
returns c = one_spelling
