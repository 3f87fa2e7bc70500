use Rattle.sp_copy.proofs.Rising.{rising}
use Rattle.sp_copy.proofs.laws.rising_parts_have_no_fault.Goals as goal

pub returns : goal.returns
returns c = rising
