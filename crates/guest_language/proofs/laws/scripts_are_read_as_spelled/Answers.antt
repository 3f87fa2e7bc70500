use Rattle.guest_language.proofs.SpelledScript.{spelled_reads}
use Rattle.guest_language.proofs.laws.scripts_are_read_as_spelled.Goals as goal

pub returns : goal.returns
returns c = spelled_reads
