use Rattle.kern_model.specs.Files.{resized}
use Rattle.kern_nodes.specs.Bytes.{contents_of, with_contents}
use Rattle.kern_files.proofs.AgreeLaws.{agree_contents, after_answer}
use Rattle.kern_files.proofs.tree.Tree.cut.Goals as goal

pub invariant_of-self : goal.invariant_of-self
invariant_of-self c =
    let bytes = resized (contents_of c.self.inside.nodes c.args.node.0) c.args.len in
    after_answer c.self.inside.directories c.self.inside.nodes c.cut.new.self (with_contents c.self.inside.nodes c.args.node.0 bytes) c.cut.result c.cut.ensures.ok c.cut.ensures.err c.self.invariant
    (agree_contents c.self.inside.directories c.self.inside.nodes c.args.node.0 bytes c.self.invariant)
