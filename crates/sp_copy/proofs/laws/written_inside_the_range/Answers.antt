use Rattle.sp_copy.proofs.Changes.{written_changes}
use Rattle.sp_copy.proofs.laws.written_inside_the_range.Goals as goal

pub returns : goal.returns
returns c = written_changes
