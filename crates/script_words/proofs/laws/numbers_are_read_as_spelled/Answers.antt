use Rattle.script_words.proofs.NumberLaws.{decimal_read}
use Rattle.script_words.proofs.laws.numbers_are_read_as_spelled.Goals as goal

pub returns : goal.returns
returns c = decimal_read
