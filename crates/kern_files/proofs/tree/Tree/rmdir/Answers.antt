use Rattle.std.proofs.Common.{◌∷◌, sym, ◌∙◌, ap}
use Rattle.std.specs.Option.{option_map}
use Rattle.sp_base.specs.declared.names.NodeNo.{NodeNo}
use Rattle.kern_files.proofs.AgreeLaws.{named}
use Rattle.kern_files.proofs.FilesLaws.{same_name, has_node}
use Rattle.kern_files.proofs.tree.Tree.rmdir.Goals as goal

pub is_directory-requires : goal.is_directory-requires
is_directory-requires c =
    let path = c.requires.within.path in
    let at = same_name path (record { view = c.self.view_is; agree = c.self.invariant }) ∙ c.requires.within.stands in
    has_node (c.args.name.now ∷ path) c.in-Some.node.0 (record { view = c.self.view_is; agree = c.self.invariant })
    (sym (same_name (c.args.name.now ∷ path) (record { view = c.self.view_is; agree = c.self.invariant })) ∙ c.child.ensures path at ∙ ap (option_map (λ (n : NodeNo). n.0)) c.in-Some.is)

pub is_empty-requires : goal.is_empty-requires
is_empty-requires c =
    let path = c.requires.within.path in
    let at = same_name path (record { view = c.self.view_is; agree = c.self.invariant }) ∙ c.requires.within.stands in
    c.self.invariant.placed c.in-Some.node.0
    (named c.self.inside.directories.names (c.args.name.now ∷ path) c.in-Some.node.0 (c.child.ensures path at ∙ ap (option_map (λ (n : NodeNo). n.0)) c.in-Some.is))
    (sym c.is_directory.ensures ∙ c.if-not-is_directory.false)
