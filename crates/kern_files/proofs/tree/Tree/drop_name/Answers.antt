use Rattle.std.proofs.Common.{◌∷◌, ◌∙◌}
use Rattle.kern_files.proofs.FilesLaws.{in_tree, same_name, has_node, has_link, dropped}
use Rattle.kern_files.proofs.tree.Tree.drop_name.Goals as goal

pub remove-requires-clause-within : goal.remove-requires-clause-within
remove-requires-clause-within c = in_tree c.args.directory.0 (record { view = c.self.view_is; agree = c.self.invariant }) c.requires.within

pub drop_link-requires-clause-live : goal.drop_link-requires-clause-live
drop_link-requires-clause-live c =
    let path = c.requires.within.path in
    has_node (c.args.name.now ∷ path) c.args.node.0 (record { view = c.self.view_is; agree = c.self.invariant }) (c.requires.there path c.requires.within.stands)

pub drop_link-requires-clause-linked : goal.drop_link-requires-clause-linked
drop_link-requires-clause-linked c =
    let path = c.requires.within.path in
    has_link (c.args.name.now ∷ path) c.args.node.0 (record { view = c.self.view_is; agree = c.self.invariant }) (c.requires.there path c.requires.within.stands)

pub invariant_of-self : goal.invariant_of-self
invariant_of-self c =
    let path = c.requires.within.path in
    let at = c.requires.within.stands in
    (dropped c.remove.new.self c.drop_link.new.self (c.args.name.now ∷ path) c.args.node.0 (record { view = c.self.view_is; agree = c.self.invariant }) (c.requires.there path at)
    (c.remove.ensures path c.args.node.0 (same_name path (record { view = c.self.view_is; agree = c.self.invariant }) ∙ at)) c.drop_link.ensures).agree

pub returns : goal.returns
returns c path at =
    (dropped c.remove.new.self c.drop_link.new.self (c.args.name.now ∷ path) c.args.node.0 (record { view = c.self.view_is; agree = c.self.invariant }) (c.requires.there path at)
    (c.remove.ensures path c.args.node.0 (same_name path (record { view = c.self.view_is; agree = c.self.invariant }) ∙ at)) c.drop_link.ensures).view
