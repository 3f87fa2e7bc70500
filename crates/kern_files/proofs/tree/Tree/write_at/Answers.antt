use Rattle.kern_nodes.specs.Bytes.{written}
use Rattle.kern_files.proofs.AgreeLaws.{agree_written, after_answer}
use Rattle.kern_files.proofs.tree.Tree.write_at.Goals as goal

pub invariant_of-self : goal.invariant_of-self
invariant_of-self c =
    after_answer c.self.inside.directories c.self.inside.nodes c.write_at.new.self (written c.self.inside.nodes c.args.node.0 c.args.from c.args.bytes.now) c.write_at.result c.write_at.ensures.ok c.write_at.ensures.err c.self.invariant
    (agree_written c.self.inside.directories c.self.inside.nodes c.args.node.0 c.args.from c.args.bytes.now c.self.invariant)
