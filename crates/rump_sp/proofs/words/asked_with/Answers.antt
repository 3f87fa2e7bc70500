use Rattle.std.proofs.Common.{◌∙◌, ap}
use Rattle.clap.specs.Faults.{is_simple_and_free}
use Rattle.rump_sp.proofs.WordLaws.{simple_for}
use Rattle.rump_sp.proofs.words.asked_with.Goals as goal

pub matches_in-requires : goal.matches_in-requires
matches_in-requires g c = ap is_simple_and_free c.in_ok-command.ensures ∙ simple_for c.args.name
