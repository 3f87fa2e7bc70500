use Rattle.kern_model.proofs.ReadLaws.{written_is_read}
use Rattle.kern_model.proofs.laws.reads_give_what_was_written.Goals as goal

pub returns : goal.returns
returns c = written_is_read
