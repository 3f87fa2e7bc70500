use Rattle.hijack_split.proofs.ChangeLaws.{first_renamed, paths_renamed}
use Rattle.hijack_split.proofs.laws.calls_keep_their_words.Goals as goal

pub returns : goal.returns
returns c = record { first = first_renamed; paths = paths_renamed }
