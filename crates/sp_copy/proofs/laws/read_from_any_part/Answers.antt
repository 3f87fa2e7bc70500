use Rattle.sp_copy.proofs.Apart.{only_reader}
use Rattle.sp_copy.proofs.laws.read_from_any_part.Goals as goal

pub returns : goal.returns
returns c = only_reader
