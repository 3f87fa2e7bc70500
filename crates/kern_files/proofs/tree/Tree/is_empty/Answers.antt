use Rattle.kern_files.proofs.FilesLaws.{in_tree}
use Rattle.kern_files.proofs.tree.Tree.is_empty.Goals as goal

pub is_empty-requires : goal.is_empty-requires
is_empty-requires c = in_tree c.args.directory.0 (record { view = c.self.view_is; agree = c.self.invariant }) c.requires
