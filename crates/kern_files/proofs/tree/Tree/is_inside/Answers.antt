use Rattle.std.proofs.Common.{◌≡◌, false, sym, ◌∙◌}
use Rattle.std.proofs.lemmas.Bool.{false_from_ne_true, true≢false}
use Rattle.kern_names.specs.Tree.{has_directory}
use Rattle.kern_files.proofs.FilesLaws.{Shows, in_tree, same_name}
use Rattle.kern_files.proofs.RenameLaws.{below_file}
use Rattle.kern_files.proofs.tree.Tree.is_inside.Goals as goal

pub is_inside-requires : goal.is_inside-requires
is_inside-requires c = in_tree c.args.directory.0 (record { view = c.self.view_is; agree = c.self.invariant }) c.requires.within

pub returns-else-is_directory : goal.returns-else-is_directory
returns-else-is_directory c path above at into =
    let shows : Shows c.self.inside.directories c.self.inside.nodes c.args.self.now = record { view = c.self.view_is; agree = c.self.invariant } in
    let plain : has_directory c.self.inside.directories c.args.top.0 ≡ false = false_from_ne_true _ (λ d. true≢false (sym (c.self.invariant.kind c.args.top.0 d) ∙ sym c.is_directory.ensures ∙ c.if-is_directory.false)) in
    c.if-is_directory.false ∙ sym (below_file c.self.inside.directories c.args.top.0 c.args.directory.0 above path c.names_are_a_tree.ensures (same_name above shows ∙ into) plain (same_name path shows ∙ at) (in_tree c.args.directory.0 shows c.requires.within))
