use Rattle.std.proofs.Common.{◌≡◌, ◌∷◌, None, false, sym, ◌∙◌, subst}
use Rattle.std.specs.FinMap.{get}
use Rattle.kern_model.specs.State.{is_directory}
use Rattle.kern_names.specs.Tree.{Tree}
use Rattle.kern_nodes.specs.NodeTable.{NodeTable, state_of}
use Rattle.kern_files.specs.Parts.{Agree}
use Rattle.kern_files.proofs.AgreeLaws.{agree_more}
use Rattle.kern_files.proofs.FilesLaws.{in_tree, same_name, live_in, free_by}
use Rattle.kern_files.proofs.tree.Tree.link.Goals as goal

pub add-requires-clause-within : goal.add-requires-clause-within
add-requires-clause-within c = in_tree c.args.directory.0 (record { view = c.self.view_is; agree = c.self.invariant }) c.requires.within

pub invariant_of-self-2 : goal.invariant_of-self-2
invariant_of-self-2 c =
    let tree = c.self.inside.directories in
    let table = c.self.inside.nodes in
    let path = c.requires.within.path in
    let at = same_name path (record { view = c.self.view_is; agree = c.self.invariant }) ∙ c.requires.within.stands in
    let free : get tree.names (c.args.name.now ∷ path) ≡ None = c.child.ensures path at ∙ free_by c.child.result (sym c.is_some.ensures ∙ c.if-is_some.false) in
    let plain : is_directory (state_of table) c.args.node.0 ≡ false = sym c.is_directory.ensures ∙ c.if-is_directory.false in
    subst (λ (x : Tree × NodeTable). Agree x.0 x.1) (λ i. (sym (c.in_ok-add.ensures.ok path at) i, sym c.add_link.ensures i))
    (agree_more tree table (c.args.name.now ∷ path) c.args.node.0 free (live_in c.args.node.0 (record { view = c.self.view_is; agree = c.self.invariant }) c.requires.live) plain c.self.invariant)
