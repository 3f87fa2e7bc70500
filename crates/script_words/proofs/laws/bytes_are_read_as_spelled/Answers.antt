use Rattle.script_words.proofs.QuoteLaws.{quoted_read}
use Rattle.script_words.proofs.laws.bytes_are_read_as_spelled.Goals as goal

pub returns : goal.returns
returns c = quoted_read
