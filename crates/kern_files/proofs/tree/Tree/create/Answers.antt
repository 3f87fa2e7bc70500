use Rattle.std.proofs.Common.{◌≡◌, ◌∷◌, None, sym, ◌∙◌, subst, rules}
use Rattle.std.specs.FinMap.{get}
use Rattle.kern_model.specs.State.{is_directory_kind}
use Rattle.kern_names.specs.Tree.{Tree, with_name}
use Rattle.kern_nodes.specs.NodeTable.{NodeTable}
use Rattle.kern_files.specs.Parts.{Agree, files_of}
use Rattle.kern_files.proofs.AgreeLaws.{agree_new}
use Rattle.kern_files.proofs.FilesLaws.{in_tree, same_name, free_by, may_have, made_from, failed, done}
use Rattle.kern_files.proofs.tree.Tree.create.Goals as goal
use Rattle.kern_files.proofs.tree.Tree.create.Goals.{in-Directory, in_default}

pub add-requires-clause-within : goal.add-requires-clause-within
add-requires-clause-within c = in_tree c.args.directory.0 (record { view = c.self.view_is; agree = c.self.invariant }) c.requires.within

pub add-requires-clause-new : goal.add-requires-clause-new
add-requires-clause-new c = may_have c.in_ok-node.node.0 c.match-matches.matches c.self.invariant c.in_ok-node.ensures.number

pub invariant_of-self-then-is_err : goal.invariant_of-self-then-is_err
invariant_of-self-then-is_err c =
    let made = made_from c.requires.within.path c.args.directory.0 c.args.kind c.make.new.self (record { view = c.self.view_is; agree = c.self.invariant }) c.requires.within.stands c.in_ok-node.ensures.ok in
    subst (λ (x : Tree × NodeTable). Agree x.0 x.1) (λ i. (sym (failed c.add.result c.add.ensures.err (sym c.if-is_err.ensures.value)) i, sym (c.unmake.ensures c.self.inside.nodes made) i)) c.self.invariant

pub returns-then-is_err-clause-err : goal.returns-then-is_err-clause-err
returns-then-is_err-clause-err c =
    let made = made_from c.requires.within.path c.args.directory.0 c.args.kind c.make.new.self (record { view = c.self.view_is; agree = c.self.invariant }) c.requires.within.stands c.in_ok-node.ensures.ok in
    (λ i. files_of (failed c.add.result c.add.ensures.err (sym c.if-is_err.ensures.value) i) (c.unmake.ensures c.self.inside.nodes made i)) ∙ c.self.view_is

pub invariant_of-self-else-is_err : goal.invariant_of-self-else-is_err
invariant_of-self-else-is_err c =
    let tree = c.self.inside.directories in
    let table = c.self.inside.nodes in
    let path = c.requires.within.path in
    let at = same_name path (record { view = c.self.view_is; agree = c.self.invariant }) ∙ c.requires.within.stands in
    let free : get tree.names (c.args.name.now ∷ path) ≡ None = c.child.ensures path at ∙ free_by c.child.result (sym c.is_some.ensures ∙ c.if-is_some.false) in
    let kind : c.match-matches.matches ≡ is_directory_kind c.args.kind = elim c.match-matches.branch [ in-Directory w ↦ search rules | in_default w ↦ search rules ] in
    let names : c.add.new.self ≡ with_name tree (c.args.name.now ∷ path) c.in_ok-node.node.0 c.match-matches.matches = done c.add.result (c.add.ensures.ok path at) (sym c.if-is_err.ensures.value) in
    subst (λ (x : Tree × NodeTable). Agree x.0 x.1)
    (λ i. (sym (names ∙ (λ j. with_name tree (c.args.name.now ∷ path) (c.in_ok-node.ensures.number j) (kind j))) i, sym c.in_ok-node.ensures.ok i))
    (agree_new tree table (c.args.name.now ∷ path) c.args.kind free c.self.invariant)
