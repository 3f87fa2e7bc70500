use Rattle.hijack_split.proofs.CutLaws.{cut_reads, root_reads}
use Rattle.hijack_split.proofs.laws.cut_paths_read_as_the_rest.Goals as goal

pub returns : goal.returns
returns c = record { cut = cut_reads; root = root_reads }
