use Rattle.std.proofs.Common.{◌∙◌}
use Rattle.kern_open.proofs.Lives.{worked_in_is}
use Rattle.kern_open.proofs.opens.Opens.is_directory_of_some.Goals as goal

pub returns : goal.returns
returns c = c.is_cwd.ensures ∙ worked_in_is c.self.inside.procs c.self.inside.files c.args.self.now c.args.node.0 c.self.view_is
