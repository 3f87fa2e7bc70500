use Rattle.kern_model.specs.Walk.{walk}
use Rattle.kern_files.proofs.FilesLaws.{in_tree}
use Rattle.kern_files.proofs.WalkLaws.{has_names, reached}
use Rattle.kern_files.proofs.tree.Tree.walk.Goals as goal

pub walk-requires-clause-within : goal.walk-requires-clause-within
walk-requires-clause-within c = in_tree c.args.working.0 (record { view = c.self.view_is; agree = c.self.invariant }) c.requires.within

pub returns : goal.returns
returns c s pid names nodes working =
    reached c.args.text.now (walk s pid c.args.text.now) c.walk.result (record { view = c.self.view_is; agree = c.self.invariant }) (c.walk.ensures s pid (has_names s (record { view = c.self.view_is; agree = c.self.invariant }) names nodes) working)
