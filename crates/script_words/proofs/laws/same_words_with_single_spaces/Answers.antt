use Rattle.script_words.proofs.LineLaws.{joined_again}
use Rattle.script_words.proofs.laws.same_words_with_single_spaces.Goals as goal

pub returns : goal.returns
returns c = joined_again
