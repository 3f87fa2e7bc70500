use Rattle.kern_names.proofs.InsideLaws.{shown_as, whole}
use Rattle.kern_names.proofs.directories.Directories.names_are_a_tree.Goals as goal

pub returns : goal.returns
returns c = whole c.self.inside.directories c.self.invariant c.args.self.now (shown_as c.self.inside.directories c.self.inside.shown c.args.self.now c.self.view_is)
