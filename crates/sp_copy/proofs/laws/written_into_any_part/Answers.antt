use Rattle.sp_copy.proofs.Apart.{only_taker}
use Rattle.sp_copy.proofs.laws.written_into_any_part.Goals as goal

pub returns : goal.returns
returns c = only_taker
